-- One outcome for each call of util. Assumes nothing.
use mathlib.Core.List.{List}
use mathlib.Core.Path.{◌≡◌, refl}
use Prim.Native.Nat.{ℕ, ◌*◌, ◌%◌, ◌^◌}
use Rattle.std.specs.Prelude.{Result, Ok, Err}
use Rattle.util.specs.Bytes.{Said, is, refused, load, said}
use Rattle.util.specs.Power.{round_up}
use Rattle.util.specs.declared.TooLong.{TooLong}
use Rattle.outcomes.proofs.One.{both, one}

pub wrapping_mul_one_outcome : (a b : ℕ) (r₁ r₂ : ℕ) → r₁ ≡ (a * b) % 2 ^ 64 → r₂ ≡ (a * b) % 2 ^ 64 → r₁ ≡ r₂
wrapping_mul_one_outcome a b r₁ r₂ e₁ e₂ = both e₁ e₂

pub round_to_pow2_one_outcome : (x : ℕ) (r₁ r₂ : ℕ) → r₁ ≡ round_up x → r₂ ≡ round_up x → r₁ ≡ r₂
round_to_pow2_one_outcome x r₁ r₂ e₁ e₂ = both e₁ e₂

-- the answer that is said so
abbrev unsaid : Said → Result ℕ TooLong
unsaid (is n) = Ok n
unsaid (refused k) = Err (record {})

back : (a : Result ℕ TooLong) → unsaid (said a) ≡ a
back (Ok n) = refl
back (Err e) = refl

pub load_u64_le_one_outcome : (bytes : List ℕ) (r₁ r₂ : Result ℕ TooLong) → said r₁ ≡ load bytes → said r₂ ≡ load bytes → r₁ ≡ r₂
load_u64_le_one_outcome bytes r₁ r₂ e₁ e₂ = one said unsaid back r₁ r₂ (both e₁ e₂)
