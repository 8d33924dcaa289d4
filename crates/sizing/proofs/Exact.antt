-- The f32 estimate is S*n/32, since every step is exact: each value is n times a power of two, with n at most 64.
-- It holds for every S = 2 ^ k with k ≤ 62: a greater S needs no new proof. Assumes nothing.
use Rattle.std.proofs.Common.{◌≡◌, ℕ, ◌+◌, ◌*◌, ◌/◌, ◌^◌, ◌<◌, ◌≤◌, Bool, true, false, T, pos, sym, refl, ap, ◌∙◌, subst, ap₂, true≢false, lt_of_lt_of_le, lt_of_le_of_lt, mul-le-mul_right, mul_assoc, mul_comm, lt_of_mul-lt-mul_right, mul-le-mul_left, mul-lt-mul_of_pos_right, mul-pos, one-mul, mul-one, mul_right_comm, arith, lit≤, lt→ltb, pow_mono, pow-add, shl_lt}
use native.Mathlib.Nat.{mul-mul-mul_comm, eq_of_mul-eq-mul_right, mul-div-mul_right, mul-div-mul_left}
use lib.Pow.{pow-lt}
use lib.Ieee.{Float, nan, inf, fin, binary32, up, down, mul, div, of_int, to_unsigned, round, lt}
use lib.Ieee.Exact.{HasValue, round_exact}
use lib.Ieee.Fits.{down_pos}
use Rattle.rules.specs.Growth.{sampled}
use Rattle.sizing.specs.Float.{sixty_four, two, estimated}

-- from one fraction to another of the same size
rescale : (x : Float) (s : Bool) (w l a c : ℕ) → 0 < l → a * l ≡ w * c → HasValue x s w l → HasValue x s a c
rescale nan s w l a c p h v = v
rescale (inf t) s w l a c p h v = v
rescale (fin t m e) s w l a c p h v = (
  v.0,
  eq_of_mul-eq-mul_right l p (m * up e * c) (a * down e)
      (mul_right_comm (m * up e) c l
      ∙ ap (λ (x : ℕ). x * c) v.1
      ∙ mul_right_comm w (down e) c
      ∙ ap (λ (x : ℕ). x * down e) (sym h)
      ∙ mul_right_comm a l (down e)),
)

-- a fraction that is q * 2 ^ j in units of the smallest value, in two ways of writing it
exact : (s : Bool) (num den a c q j : ℕ) → 0 < den → 0 < c → num * c ≡ a * den → q < 2 ^ 24 → q * 2 ^ j < 2 ^ 277 → a * 2 ^ 149 ≡ q * 2 ^ j * c
    → HasValue (round binary32 s num den) s a c
exact s num den a c q j pd pc h small fine e =
    let g : num * 2 ^ 149 ≡ q * 2 ^ j * den = eq_of_mul-eq-mul_right c pc (num * 2 ^ 149) (q * 2 ^ j * den)
    (mul_right_comm num (2 ^ 149) c ∙ ap (λ (x : ℕ). x * 2 ^ 149) h ∙ mul_right_comm a den (2 ^ 149) ∙ ap (λ (x : ℕ). x * den) e ∙ mul_right_comm (q * 2 ^ j) c den) in
    rescale (round binary32 s num den) s num den a c pd (sym h) (round_exact binary32 s num den q j pd small fine g)

of_exact : (n : ℕ) → n < 2 ^ 24 → HasValue (of_int binary32 (pos n)) false n 1
unfolding of_int
of_exact n h = exact false n 1 n 1 n 149 (omega arith) (omega arith) refl h (lt_of_lt_of_le (shl_lt 24 149 h) (pow_mono {i = 173} {j = 277} (lit≤ tt))) (sym (mul-one (n * 2 ^ 149)))

pow_exact : (k : ℕ) → k ≤ 127 → HasValue (of_int binary32 (pos (2 ^ k))) false (2 ^ k) 1
unfolding of_int
pow_exact k h =
    exact false (2 ^ k) 1 (2 ^ k) 1 1 (k + 149) (omega arith) (omega arith) refl (omega arith)
    (rw one-mul (pow-lt {j = 277} (omega arith)))
    (rw (mul-one, one-mul) (sym (pow-add 2 k 149)))

mul_exact : (x y : Float) (a c b d q j : ℕ) → 0 < c → 0 < d → HasValue x false a c → HasValue y false b d → q < 2 ^ 24 → q * 2 ^ j < 2 ^ 277
    → a * b * 2 ^ 149 ≡ q * 2 ^ j * (c * d) → HasValue (mul binary32 x y) false (a * b) (c * d)
unfolding mul
mul_exact nan y a c b d q j pc pd hx hy small fine e = absurd hx
mul_exact (inf s) y a c b d q j pc pd hx hy small fine e = absurd hx
mul_exact (fin s m k) nan a c b d q j pc pd hx hy small fine e = absurd hy
mul_exact (fin s m k) (inf t) a c b d q j pc pd hx hy small fine e = absurd hy
mul_exact (fin true m k) (fin t n l) a c b d q j pc pd hx hy small fine e = absurd (true≢false hx.0)
mul_exact (fin false m k) (fin true n l) a c b d q j pc pd hx hy small fine e = absurd (true≢false hy.0)
mul_exact (fin false m k) (fin false n l) a c b d q j pc pd hx hy small fine e =
    exact false (m * up k * (n * up l)) (down k * down l) (a * b) (c * d) q j (mul-pos (down_pos k) (down_pos l)) (mul-pos pc pd)
    (mul-mul-mul_comm (m * up k) (n * up l) c d ∙ ap₂ (λ (x y : ℕ). x * y) hx.1 hy.1 ∙ mul-mul-mul_comm a (down k) b (down l))
    small fine e

-- divided by 64.0
div_exact : (x : Float) (a q j : ℕ) → HasValue x false a 1 → q < 2 ^ 24 → q * 2 ^ j < 2 ^ 277 → a * 2 ^ 149 ≡ q * 2 ^ j * 64
    → HasValue (div binary32 x sixty_four) false a 64
unfolding div
div_exact nan a q j hx small fine e = absurd hx
div_exact (inf s) a q j hx small fine e = absurd hx
div_exact (fin true m k) a q j hx small fine e = absurd (true≢false hx.0)
div_exact (fin false m k) a q j hx small fine e =
    exact false (m * up k * 1) (64 * down k) a 64 q j (omega (arith, down_pos k)) (omega arith)
    (let g : m * up k * 1 ≡ a * down k = hx.1 in rw g (mul_assoc a (down k) 64 ∙ ap (λ (x : ℕ). a * x) (mul_comm (down k) 64)))
    small fine e

-- what a float that is a / c gives as an integer, and where it lies
cut : (m e a c : ℕ) → 0 < c → 0 < e → m * c ≡ a * e → m / e ≡ a / c
cut m e a c pc pe h = sym (mul-div-mul_right m e pc) ∙ ap (λ (x : ℕ). x / (e * c)) h ∙ ap (λ (x : ℕ). x / (e * c)) (mul_comm a e) ∙ mul-div-mul_left a c pe

pub to_value : (x : Float) (a c : ℕ) → 0 < c → a / c < 2 ^ 64 → HasValue x false a c → to_unsigned 64 x ≡ a / c
unfolding to_unsigned
to_value nan a c pc h v = absurd v
to_value (inf s) a c pc h v = absurd v
to_value (fin true m e) a c pc h v = absurd (true≢false v.0)
to_value (fin false m e) a c pc h v =
    let q : m * up e / down e ≡ a / c = cut (m * up e) (down e) a c pc (down_pos e) v.1 in
    omega arith

pub above : (x : Float) (a c : ℕ) → HasValue x false a c → T (lt (fin true 1 (pos 0)) x)
unfolding lt
above nan a c v = absurd v
above (inf s) a c v = absurd v
above (fin true m e) a c v = absurd (true≢false v.0)
above (fin false m e) a c v = lt→ltb 0 (1 * 1 * down e + m * up e * 1) (omega (arith, down_pos e))

pub under : (x : Float) (a c : ℕ) → 0 < c → a < 2 ^ 64 * c → HasValue x false a c → T (lt x (fin false 1 (pos 64)))
unfolding lt
under nan a c pc h v = absurd v
under (inf s) a c pc h v = absurd v
under (fin true m e) a c pc h v = absurd (true≢false v.0)
under (fin false m e) a c pc h v =
    let g : m * up e * c < 2 ^ 64 * down e * c =
    subst (λ (x : ℕ). x < 2 ^ 64 * down e * c) (sym v.1)
    (subst (λ (x : ℕ). a * down e < x) (mul_right_comm (2 ^ 64) c (down e)) (mul-lt-mul_of_pos_right h (down_pos e))) in
    let k : m * up e < 2 ^ 64 * down e = lt_of_mul-lt-mul_right c g in
    lt→ltb (m * up e * 1) (1 * 2 ^ 64 * down e) (omega arith)

module _ (k n : ℕ) (hk : k ≤ 62) (hn : n ≤ sampled) where
  units_of : (i : ℕ) → i ≤ 210 → n * 2 ^ i < 2 ^ 277
  units_of i h = lt_of_le_of_lt (mul-le-mul_right (2 ^ i) hn) (subst (λ (x : ℕ). x < 2 ^ 277) (pow-add 2 6 i) (pow-lt {j = 277} (omega arith)))

  pub estimated_is : HasValue (estimated (2 ^ k) n) false (2 ^ k * n * 2) 64
  unfolding estimated
  estimated_is =
      let ratio : HasValue (div binary32 (of_int binary32 (pos n)) sixty_four) false n 64 = div_exact _ n n 143 (of_exact n (omega arith)) (omega arith) (units_of 143 (omega arith)) (sym (mul_assoc n (2 ^ 143) 64)) in
      let in_use : HasValue (mul binary32 (of_int binary32 (pos (2 ^ k))) (div binary32 (of_int binary32 (pos n)) sixty_four)) false (2 ^ k * n) (1 * 64) = mul_exact _ _ (2 ^ k) 1 n 64 n (k + 143) (omega arith) (omega arith) (pow_exact k (omega arith)) ratio (omega arith) (units_of (k + 143) (omega arith)) one in
      mul_exact _ two (2 ^ k * n) 64 2 1 n (k + 144) (omega arith) (omega arith) in_use (refl, refl) (omega arith) (units_of (k + 144) (omega arith)) doubled
    where
      swap : (i : ℕ) → 2 ^ k * n * 2 ^ i ≡ n * 2 ^ (k + i)
      swap i = ap (λ (x : ℕ). x * 2 ^ i) (mul_comm (2 ^ k) n) ∙ mul_assoc n (2 ^ k) (2 ^ i) ∙ ap (λ (x : ℕ). n * x) (sym (pow-add 2 k i))

      one : 2 ^ k * n * 2 ^ 149 ≡ n * 2 ^ (k + 143) * (1 * 64)
      one = rw (← swap 143) (sym (mul_assoc (2 ^ k * n) (2 ^ 143) 64))

      doubled : 2 ^ k * n * 2 * 2 ^ 149 ≡ n * 2 ^ (k + 144) * (64 * 1)
      doubled = rw (← swap 144) (mul_assoc (2 ^ k * n) 2 (2 ^ 149) ∙ sym (mul_assoc (2 ^ k * n) (2 ^ 144) 64))

  small : 2 ^ k * n ≤ 2 ^ 62 * 64
  small = omega (arith, mul-le-mul_right n (pow_mono hk), mul-le-mul_left (2 ^ 62) hn)

  pub estimate_is : to_unsigned 64 (estimated (2 ^ k) n) ≡ 2 ^ k * n / 32
  estimate_is = to_value _ (2 ^ k * n * 2) 64 (omega arith) (omega (arith, small)) estimated_is ∙ omega arith

  pub estimate_above : T (lt (fin true 1 (pos 0)) (estimated (2 ^ k) n))
  estimate_above = above _ _ _ estimated_is

  pub estimate_under : T (lt (estimated (2 ^ k) n) (fin false 1 (pos 64)))
  estimate_under = under _ _ _ (omega arith) (omega (arith, small)) estimated_is
