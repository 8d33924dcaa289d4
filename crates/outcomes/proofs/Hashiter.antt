-- One outcome for each call of hashiter. Assumes nothing.
use mathlib.Core.List.{List}
use mathlib.Core.Path.{◌≡◌, refl, ap}
use Prim.Native.Nat.{ℕ, zero, suc}
use Rattle.std.specs.Prelude.{Option, Some, None, Result, Ok, Err}
use Rattle.rules.specs.Answers.{Said, found, absent, new, replaced, revived, removed, refused}
use Rattle.rules.specs.Cursor as rule
use Rattle.rules.specs.Cursor.{set_value, start as start·rule, step as step·rule}
use Rattle.cells.specs.Layout.{Done, lent, done_by}
use Rattle.cells.specs.declared.Table.{Table}
use Rattle.hashiter.specs.Answers.{step_said, stepped, set_said, set_done}
use Rattle.hashiter.specs.declared.Cursor.{Cursor}
use Rattle.cells.specs.declared.ShapeError.{ShapeError}
use Rattle.hashiter.specs.declared.LiveCell.{LiveCell}
use Rattle.hashiter.specs.declared.Stepped.{Stepped}
use Rattle.hashiter.specs.declared.SetError.{SetError}
use Rattle.hashiter.specs.declared.SetError.TheVariants as sets
use Rattle.outcomes.proofs.One.{both, one}

-- ---- the cursor

pub cursor_start_one_outcome : (r₁ r₂ : Cursor) → r₁.position ≡ start·rule → r₂.position ≡ start·rule → r₁ ≡ r₂
cursor_start_one_outcome r₁ r₂ e₁ e₂ = λ i. record { position = both e₁ e₂ i }

-- the answer that is said so
abbrev unstep : rule.StepSaid → Result (Option LiveCell) ShapeError
unstep (rule.next i k v) = Ok (Some (record { index = i; key = k; value = v }))
unstep rule.end = Ok None
unstep (rule.refusal n) = Err (record {})

step_back : (a : Result (Option LiveCell) ShapeError) → unstep (step_said a) ≡ a
step_back (Ok (Some c)) = refl
step_back (Ok None) = refl
step_back (Err e) = refl

abbrev unstepped : rule.Step → Stepped
unstepped y = record { cursor = record { position = y.position }; said = unstep y.said }

stepped_back : (a : Stepped) → unstepped (stepped a) ≡ a
stepped_back a = λ i. record { cursor = a.cursor; said = step_back a.said i }

pub cursor_step_one_outcome : (self : Cursor) (words deltas : List ℕ) (table : Table) (r₁ r₂ : Stepped)
    → stepped r₁ ≡ step·rule (lent words deltas table) self.position
    → stepped r₂ ≡ step·rule (lent words deltas table) self.position
    → r₁ ≡ r₂
cursor_step_one_outcome self words deltas table r₁ r₂ e₁ e₂ = one stepped unstepped stepped_back r₁ r₂ (both e₁ e₂)

-- ---- setting a value

abbrev unset : Said → Result (Option ℕ) SetError
unset (replaced v) = Ok (Some v)
unset absent = Ok None
unset (refused zero l) = Err sets.Null
unset (refused (suc zero) l) = Err sets.Shape
unset (refused (suc (suc n)) l) = Err sets.Null
unset (found v) = Ok None
unset new = Ok None
unset revived = Ok None
unset (removed v) = Ok None

set_back : (a : Result (Option ℕ) SetError) → unset (set_said a) ≡ a
set_back (Ok (Some v)) = refl
set_back (Ok None) = refl
set_back (Err sets.Shape) = refl
set_back (Err sets.Null) = refl

pub set_value_one_outcome : (words deltas : List ℕ) (table : Table) (index value : ℕ) (r₁ r₂ : Result (Option ℕ) SetError) (words₁ words₂ : List ℕ)
    → set_done r₁ table.live words₁ deltas ≡ done_by (set_value (lent words deltas table) index value) words deltas
    → set_done r₂ table.live words₂ deltas ≡ done_by (set_value (lent words deltas table) index value) words deltas
    → (r₁ ≡ r₂) × (words₁ ≡ words₂)
set_value_one_outcome words deltas table index value r₁ r₂ words₁ words₂ e₁ e₂ =
    let e = both e₁ e₂ in
    (one set_said unset set_back r₁ r₂ (ap (λ (y : Done). y.said) e), ap (λ (y : Done). y.words) e)
