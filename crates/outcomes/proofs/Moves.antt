-- One outcome for the move. Assumes nothing.
use mathlib.Core.List.{List, [], ◌∷◌}
use mathlib.Core.Path.{◌≡◌, refl, ap}
use Prim.Native.Nat.{ℕ, zero, suc}
use Rattle.std.specs.Prelude.{Result, Ok, Err}
use Rattle.cells.specs.declared.Table.{Table}
use Rattle.moves.specs.Answers.{Move, moved, refuses, move_said, MoveLeft, move_left, move_rule}
use Rattle.moves.specs.declared.MoveError.{MoveError}
use Rattle.moves.specs.declared.MoveError.TheVariants.{Shape, Full, Broken}
use Rattle.outcomes.proofs.One.{both, one}

-- the answer that is said so
abbrev unmove : Move → Result Table MoveError
unmove (moved t) = Ok t
unmove (refuses zero l) = Err Broken
unmove (refuses (suc zero) l) = Err Shape
unmove (refuses (suc (suc n)) []) = Err Broken
unmove (refuses (suc (suc n)) (p ∷ l)) = Err (Full (record { position = p }))

move_back : (a : Result Table MoveError) → unmove (move_said a) ≡ a
move_back (Ok t) = refl
move_back (Err Shape) = refl
move_back (Err (Full at)) = refl
move_back (Err Broken) = refl

pub move_table_one_outcome : (from_words from_deltas : List ℕ) (table : Table) (words deltas : List ℕ) (r₁ r₂ : Result Table MoveError) (words₁ deltas₁ words₂ deltas₂ : List ℕ)
    → move_left r₁ words₁ deltas₁ ≡ move_rule from_words from_deltas table words deltas
    → move_left r₂ words₂ deltas₂ ≡ move_rule from_words from_deltas table words deltas
    → (r₁ ≡ r₂) × (words₁ ≡ words₂) × (deltas₁ ≡ deltas₂)
move_table_one_outcome from_words from_deltas table words deltas r₁ r₂ words₁ deltas₁ words₂ deltas₂ e₁ e₂ =
    let e = both e₁ e₂ in
    (one move_said unmove move_back r₁ r₂ (ap (λ (y : MoveLeft). y.said) e), ap (λ (y : MoveLeft). y.words) e, ap (λ (y : MoveLeft). y.deltas) e)
