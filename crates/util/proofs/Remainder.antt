-- Remainders of products. Assumes nothing.
use mathlib.Core.Path.{◌≡◌, refl, sym, ap, ◌∙◌}
use Prim.Native.Nat.{ℕ, ◌+◌, ◌*◌, ◌/◌, ◌%◌}
use native.Mathlib.Nat.{mul_assoc, mul_comm, mul_left_comm, add-mul, div-add-mod', mul-add-mod_self_right}

-- a remainder may be taken before a product
pub mod_before_mul : (x n p : ℕ) → (x % n * p) % n ≡ (x * p) % n
mod_before_mul x n p =
    sym (mul-add-mod_self_right (x / n * p) n (x % n * p)) ∙ ap (λ (t : ℕ). t % n) (regroup (x / n) (x % n) ∙ ap (λ (t : ℕ). t * p) (div-add-mod' x n))
  where
    regroup : (q r : ℕ) → q * p * n + r * p ≡ (q * n + r) * p
    regroup q r = simp (add-mul, mul_assoc, mul_comm, mul_left_comm) refl
