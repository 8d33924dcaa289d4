-- A product modulo 2 ^ 64 from 32-bit digits. Assumes nothing.
use mathlib.Core.Path.{◌≡◌, refl, sym, ap, ◌∙◌}
use Prim.Native.Nat.{ℕ, ◌+◌, ◌*◌, ◌-◌, ◌/◌, ◌%◌, ◌^◌, ◌<◌}
use native.Mathlib.Nat.{add_assoc, add_comm, add_left_comm, mul_assoc, mul_comm, mul_left_comm, mul-add, add-mul, mul-add-mod_self_right, le_of_lt, mul-le-mul_left}
use native.Mathlib.Omega.{arith}
use lib.Bits.{bit_and, bit_or, and_mask, mask_lt, or_shifted}
use lib.Pow.{split}
use mir.Syntax.{w64}
use mir.Val.{Fits}

-- ---- each product and each sum of the code fits a word, whatever its digits

module _ {x y : ℕ} (hx : x < 2 ^ 32) (hy : y < 2 ^ 32) where
  pub product_fits : Fits w64 (x * y)
  product_fits = omega (arith, mul-le-mul_left x (le_of_lt hy))

  pub sum_fits : {z : ℕ} → z < 2 ^ 32 → Fits w64 (x * y + z)
  sum_fits hz = omega (arith, mul-le-mul_left x (le_of_lt hy))

pub low_digit : (x : ℕ) → bit_and x (2 ^ 32 - 1) < 2 ^ 32
low_digit x = mask_lt x 32

pub high_digit : (x : ℕ) → Fits w64 x → x / 2 ^ 32 < 2 ^ 32
high_digit x f = omega arith

pub ruleset digits = (product_fits, sum_fits, low_digit, high_digit)

-- ---- the two digits that the code joins are the product

-- a mask takes the low digit
pub mask : (x : ℕ) → bit_and x (2 ^ 32 - 1) ≡ x % 2 ^ 32
mask x = and_mask x 32

-- two digits side by side
joined : (u z : ℕ) → bit_or (u * 2 ^ 32 % 2 ^ 64) (z % 2 ^ 32) ≡ u % 2 ^ 32 * 2 ^ 32 + z % 2 ^ 32
joined u z =
    let shifted : u * 2 ^ 32 % 2 ^ 64 ≡ u % 2 ^ 32 * 2 ^ 32 = omega arith in
    let digit : z % 2 ^ 32 < 2 ^ 32 = omega arith in
    ap (λ (t : ℕ). bit_or t (z % 2 ^ 32)) shifted ∙ or_shifted (u % 2 ^ 32) 32 (z % 2 ^ 32) digit

-- what the low product z carries goes into a crossed one, x, which then loses its upper digit
carried : (x y z : ℕ) → (y + (x + z / 2 ^ 32) % 2 ^ 32) % 2 ^ 32 * 2 ^ 32 + z % 2 ^ 32 ≡ ((x + y) * 2 ^ 32 + z) % 2 ^ 64
carried x y z = omega arith

-- the product of two numbers of two digits each
long_product : (P l h l' h' : ℕ) → (h * P + l) * (h' * P + l') ≡ h * h' * (P * P) + ((l * h' + h * l') * P + l * l')
long_product P l h l' h' = simp (mul-add, add-mul, mul_assoc, mul_comm, mul_left_comm, add_assoc, add_comm, add_left_comm) refl

-- u and z joined: z is the low product's low digit, and u has what it carries, with both crossed products, above it
pub low_word : (a b : ℕ) {u z : ℕ}
    → u ≡ a / 2 ^ 32 * (b % 2 ^ 32) + (a % 2 ^ 32 * (b / 2 ^ 32) + a % 2 ^ 32 * (b % 2 ^ 32) / 2 ^ 32) % 2 ^ 32
    → z ≡ a % 2 ^ 32 * (b % 2 ^ 32) % 2 ^ 32
    → bit_or (u * 2 ^ 32 % 2 ^ 64) z ≡ (a * b) % 2 ^ 64
low_word a b eu ez =
    let l : ℕ = a % 2 ^ 32 in
    let h : ℕ = a / 2 ^ 32 in
    let l' : ℕ = b % 2 ^ 32 in
    let h' : ℕ = b / 2 ^ 32 in
    (λ i. bit_or (eu i * 2 ^ 32 % 2 ^ 64) (ez i))
    ∙ joined (h * l' + (l * h' + l * l' / 2 ^ 32) % 2 ^ 32) (l * l')
    ∙ carried (l * h') (h * l') (l * l')
    ∙ sym (mul-add-mod_self_right (h * h') (2 ^ 64) ((l * h' + h * l') * 2 ^ 32 + l * l'))
    ∙ ap (λ (t : ℕ). t % 2 ^ 64) (sym (long_product (2 ^ 32) l h l' h'))
    ∙ (λ i. split a 32 i * split b 32 i % 2 ^ 64)
