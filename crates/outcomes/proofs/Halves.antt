-- One outcome for each call of halves. Assumes nothing.
use mathlib.Core.List.{List}
use mathlib.Core.Path.{◌≡◌, refl, ap}
use Prim.Native.Nat.{ℕ}
use Rattle.std.specs.Prelude.{Result, Ok, Err}
use Rattle.hashers.specs.declared.Hasher.{Hasher}
use Rattle.rules.specs.Growing.{in_use}
use Rattle.rules.specs.Calls.{find as find·rule}
use Rattle.cells.specs.declared.ShapeError.{ShapeError}
use Rattle.hashmap.specs.Answers.{find_answer}
use Rattle.hashmap.specs.declared.FindAnswer.{FindAnswer}
use Rattle.parts.specs.Halves.{lent_halves}
use Rattle.halves.specs.Answers.{Clear, cleared, refuses, HalvesCleared, clear_halves_said, clear_halves_left, clear_halves_rule, HalvesLeft, remove_halves_left, remove_rule}
use Rattle.parts.specs.declared.Growing.{Growing}
use Rattle.halves.specs.declared.GrowingRemoveAnswer.{GrowingRemoveAnswer}
use Rattle.outcomes.proofs.One.{both, one}
use Rattle.outcomes.proofs.Hashmap.{find_answer_one, remove_said_one}

-- the answer that is said so
abbrev unclear : Clear → Result Growing ShapeError
unclear (cleared g) = Ok g
unclear (refuses n) = Err (record {})

clear_back : (a : Result Growing ShapeError) → unclear (clear_halves_said a) ≡ a
clear_back (Ok g) = refl
clear_back (Err e) = refl

pub clear_halves_one_outcome : (lower_words lower_deltas upper_words upper_deltas : List ℕ) (size : ℕ) (hasher : Hasher) (r₁ r₂ : Result Growing ShapeError) (lower_words₁ lower_deltas₁ upper_words₁ upper_deltas₁ lower_words₂ lower_deltas₂ upper_words₂ upper_deltas₂ : List ℕ)
    → clear_halves_left r₁ lower_words₁ lower_deltas₁ upper_words₁ upper_deltas₁ ≡ clear_halves_rule lower_words lower_deltas upper_words upper_deltas size hasher
    → clear_halves_left r₂ lower_words₂ lower_deltas₂ upper_words₂ upper_deltas₂ ≡ clear_halves_rule lower_words lower_deltas upper_words upper_deltas size hasher
    → (r₁ ≡ r₂) × (lower_words₁ ≡ lower_words₂) × (lower_deltas₁ ≡ lower_deltas₂) × (upper_words₁ ≡ upper_words₂) × (upper_deltas₁ ≡ upper_deltas₂)
clear_halves_one_outcome lower_words lower_deltas upper_words upper_deltas size hasher r₁ r₂ lower_words₁ lower_deltas₁ upper_words₁ upper_deltas₁ lower_words₂ lower_deltas₂ upper_words₂ upper_deltas₂ e₁ e₂ =
    let e = both e₁ e₂ in (
      one clear_halves_said unclear clear_back r₁ r₂ (ap (λ (y : HalvesCleared). y.said) e),
      ap (λ (y : HalvesCleared). y.left.lower_words) e,
      ap (λ (y : HalvesCleared). y.left.lower_deltas) e,
      ap (λ (y : HalvesCleared). y.left.upper_words) e,
      ap (λ (y : HalvesCleared). y.left.upper_deltas) e,
    )

pub find_one_outcome : (lower_words lower_deltas upper_words upper_deltas : List ℕ) (growing : Growing) (key : ℕ) (r₁ r₂ : FindAnswer)
    → find_answer r₁ ≡ find·rule (in_use (lent_halves lower_words lower_deltas upper_words upper_deltas growing)) key
    → find_answer r₂ ≡ find·rule (in_use (lent_halves lower_words lower_deltas upper_words upper_deltas growing)) key
    → r₁ ≡ r₂
find_one_outcome lower_words lower_deltas upper_words upper_deltas growing key r₁ r₂ e₁ e₂ = find_answer_one r₁ r₂ (both e₁ e₂)

pub remove_one_outcome : (lower_words lower_deltas upper_words upper_deltas : List ℕ) (growing : Growing) (key : ℕ) (r₁ r₂ : GrowingRemoveAnswer) (lower_words₁ upper_words₁ lower_words₂ upper_words₂ : List ℕ)
    → remove_halves_left r₁ lower_words₁ lower_deltas upper_words₁ upper_deltas ≡ remove_rule lower_words lower_deltas upper_words upper_deltas growing key
    → remove_halves_left r₂ lower_words₂ lower_deltas upper_words₂ upper_deltas ≡ remove_rule lower_words lower_deltas upper_words upper_deltas growing key
    → (r₁ ≡ r₂) × (lower_words₁ ≡ lower_words₂) × (upper_words₁ ≡ upper_words₂)
remove_one_outcome lower_words lower_deltas upper_words upper_deltas growing key r₁ r₂ lower_words₁ upper_words₁ lower_words₂ upper_words₂ e₁ e₂ =
    let e = both e₁ e₂ in
    let s = remove_said_one r₁.said r₂.said (ap (λ (y : HalvesLeft). y.said) e) in (
      λ i. record { said = s i; looked = (e i).looked; growing = (e i).growing },
      ap (λ (y : HalvesLeft). y.left.lower_words) e,
      ap (λ (y : HalvesLeft). y.left.upper_words) e,
    )
