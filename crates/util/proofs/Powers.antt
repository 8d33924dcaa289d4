-- Rounding up to a power of two finds the least one. Assumes nothing.
use mathlib.Core.Path.{◌≡◌, refl, sym, ap, ◌∙◌, subst}
use Prim.Native.Nat.{ℕ, zero, suc, ◌+◌, ◌-◌, ◌*◌, ◌^◌, ◌≤◌, ◌<◌}
use native.Mathlib.Nat.{pow-suc, mul-one, one-mul, mul_assoc, mul_comm, le_of_suc-le-suc, not-suc-le-zero, mul-le-mul_left, zero-lt-suc, lt_of_not-le, not-le_of_lt}
use native.Mathlib.Omega.{arith}
use borrow.Author.Tests.{le-leb, lt-leb}
use lib.Count.{count_leading_zeros, leading_length}
use lib.Pow.{pow_pos, pow_mono}
use Rattle.util.specs.Power.{first_of, round_up}

grows : (p n : ℕ) → p ≤ p * 2 ^ n
grows p n = subst (λ (t : ℕ). t ≤ p * 2 ^ n) (mul-one p) (mul-le-mul_left p (pow_pos n))

one_further : (p n : ℕ) → p * 2 ^ suc n ≡ p * 2 * 2 ^ n
one_further p n = ap (λ (t : ℕ). p * t) (pow-suc 2 n ∙ mul_comm (2 ^ n) 2) ∙ sym (mul_assoc p 2 (2 ^ n))

-- none of the n numbers reaches x
first_of_none : (n p x : ℕ) → p * 2 ^ n < 2 * x → first_of n p x ≡ 0
unfolding first_of
first_of_none zero p x h = refl
first_of_none (suc n) p x h =
    let h' : p * 2 * 2 ^ n < 2 * x = subst (λ (t : ℕ). t < 2 * x) (one_further p n) h in
    let l : p < x = omega (arith, grows (p * 2) n) in
    rw (lt-leb x p l) (first_of_none n (p * 2) x h')

-- the m-th of them is the first that does
first_of_at : (n p m x : ℕ) → m < n → x ≤ p * 2 ^ m → p * 2 ^ m < 2 * x → first_of n p x ≡ p * 2 ^ m
unfolding first_of
first_of_at zero p m x hm hx h = absurd (not-suc-le-zero hm)
first_of_at (suc n) p zero x hm hx h = rw (le-leb x p (subst (λ (t : ℕ). x ≤ t) (mul-one p) hx)) (sym (mul-one p))
first_of_at (suc n) p (suc m) x hm hx h =
    let h' : p * 2 * 2 ^ m < 2 * x = subst (λ (t : ℕ). t < 2 * x) (one_further p m) h in
    let l : p < x = omega (arith, grows (p * 2) m) in
    rw (lt-leb x p l) (first_of_at n (p * 2) m x (le_of_suc-le-suc hm) (subst (λ (t : ℕ). x ≤ t) (one_further p m) hx) h' ∙ sym (one_further p m))

-- 0, and what is above 2 ^ 63, give 0
pub round_none : (x : ℕ) → (0 < x → 2 ^ 63 < x) → round_up x ≡ 0
unfolding round_up
round_none zero h = refl
round_none (suc v) h = first_of_none 64 1 (suc v) (omega (arith, h (zero-lt-suc v)))

pow_lt_cancel : {a b : ℕ} → 2 ^ a < 2 ^ b → a < b
pow_lt_cancel h = lt_of_not-le (λ g. not-le_of_lt h (pow_mono g))

-- any other x gives the power of two that is at least x and less than twice x
pub round_is : (x m : ℕ) → 0 < x → x ≤ 2 ^ 63 → x ≤ 2 ^ m → 2 ^ m < 2 * x → round_up x ≡ 2 ^ m
unfolding round_up
round_is zero m z h lo hi = absurd (not-suc-le-zero z)
round_is (suc v) m z h lo hi =
    let l : m < 64 = pow_lt_cancel (omega arith) in
    first_of_at 64 1 m (suc v) l (rw one-mul lo) (rw one-mul hi) ∙ one-mul (2 ^ m)

-- such a power there is, by the length of x - 1 in binary digits
pub round_length : (x : ℕ) → 0 < x → x ≤ 2 ^ 63 → (m : ℕ) × (count_leading_zeros 64 (x - 1) + m ≡ 64) × (m < 64) × (x ≤ 2 ^ m) × (2 ^ m < 2 * x)
round_length x p h =
    let b = leading_length 64 (x - 1) (omega arith) in
    let top : 2 ^ b.0 < 2 ^ 64 = omega (arith, b.3) in
    (b.0, b.1, pow_lt_cancel top, omega (arith, b.2), omega (arith, b.3))

-- what is found is a power of two, and no power of two that is at least x is smaller
pub round_least : (x : ℕ) → 0 < x → x ≤ 2 ^ 63 → (m : ℕ) × (round_up x ≡ 2 ^ m) × (x ≤ 2 ^ m) × ((j : ℕ) → x ≤ 2 ^ j → 2 ^ m ≤ 2 ^ j)
round_least x p h =
    let b = round_length x p h in
    (b.0, round_is x b.0 p h b.3 b.4, b.3, λ j hj. pow_mono (le_of_suc-le-suc (pow_lt_cancel (below_twice j hj b.0 b.4))))
  where
    below_twice : (j : ℕ) → x ≤ 2 ^ j → (m : ℕ) → 2 ^ m < 2 * x → 2 ^ m < 2 ^ suc j
    below_twice j hj m hm = rw pow-suc (omega arith)
