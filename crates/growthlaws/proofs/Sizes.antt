-- The sizes that a move may take are allowed ones. Assumes nothing.
use mathlib.Core.Bool.{true}
use mathlib.Core.Path.{◌≡◌, sym, ap, subst, ◌∙◌}
use Prim.Native.Nat.{ℕ, ◌+◌, ◌*◌, ◌^◌, ◌≤◌}
use native.Mathlib.Nat.{mod_self, le_trans}
use native.Mathlib.Omega.{arith}
use borrow.Author.Tests.{eq-eqb}
use lib.Bits.{and_mask}
use lib.Pow.{pow-add, pow_mono}
use Rattle.rules.specs.Sizes.{is_size, least_log, greatest_log}
use Rattle.rules.specs.Growth.{sampled, first_size}
use Rattle.steps.proofs.Sizes.{size_greatest, size_test}
use Rattle.sizing.proofs.Sizes.{first_size_power}

-- a power of two from the least size to the greatest
pub power_size : (k : ℕ) → least_log ≤ k → 2 ^ k ≤ 2 ^ greatest_log → is_size (2 ^ k) ≡ true
power_size k l m = sym (size_test (2 ^ k) (pow_mono {i = least_log} {j = k} l) m) ∙ eq-eqb _ 0 (and_mask (2 ^ k) k ∙ mod_self (2 ^ k))

-- the first size, doubled as often as you like, is allowed where it is at most an allowed C
pub doubled_size : (C S n j : ℕ) → is_size C ≡ true → is_size S ≡ true → n ≤ sampled → first_size S n * 2 ^ j ≤ C → is_size (first_size S n * 2 ^ j) ≡ true
doubled_size C S n j c s l m =
    let f = first_size_power S n s l in
    let q : first_size S n * 2 ^ j ≡ 2 ^ (f.0 + j) = ap (λ (x : ℕ). x * 2 ^ j) f.1 ∙ sym (pow-add 2 f.0 j) in
    rw q (power_size (f.0 + j) (omega (arith, f.2)) (subst (λ (x : ℕ). x ≤ 2 ^ greatest_log) q (le_trans m (size_greatest C c))))
