-- One outcome for the check. Assumes nothing.
use mathlib.Core.List.{List}
use mathlib.Core.Path.{◌≡◌, refl}
use Prim.Native.Nat.{ℕ, zero, suc}
use Rattle.std.specs.Prelude.{Result, Ok, Err}
use Rattle.cells.specs.Layout.{lent}
use Rattle.cells.specs.declared.Table.{Table}
use Rattle.checker.specs.Check.{Check, sound, refused, check_said, check_rule}
use Rattle.checker.specs.declared.CheckError.{CheckError}
use Rattle.checker.specs.declared.CheckError.TheVariants as errors
use Rattle.outcomes.proofs.One.{both, one}

-- the answer that is said so
abbrev unsaid : Check → Result Unit CheckError
unsaid sound = Ok tt
unsaid (refused zero) = Err errors.Unsound
unsaid (refused (suc zero)) = Err errors.Shape
unsaid (refused (suc (suc n))) = Err errors.Unsound

back : (a : Result Unit CheckError) → unsaid (check_said a) ≡ a
back (Ok u) = refl
back (Err errors.Shape) = refl
back (Err errors.Unsound) = refl

pub check_one_outcome : (words deltas : List ℕ) (table : Table) (r₁ r₂ : Result Unit CheckError)
    → check_said r₁ ≡ check_rule (lent words deltas table)
    → check_said r₂ ≡ check_rule (lent words deltas table)
    → r₁ ≡ r₂
check_one_outcome words deltas table r₁ r₂ e₁ e₂ = one check_said unsaid back r₁ r₂ (both e₁ e₂)
