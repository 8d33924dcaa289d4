-- Rounding up to a power of two.
use Rattle.std.specs.Prelude.{cond, ℕ, zero, suc, ◌*◌, leb}

-- the first of the n numbers p, 2p, 4p, .. that is at least x; 0 where none is
unfoldable pub first_of : ℕ → ℕ → ℕ → ℕ
first_of zero p x = 0
first_of (suc n) p x = cond (leb x p) p (first_of n (p * 2) x)

-- the least of 1, 2, 4, .., 2^63 that is at least x; 0 for 0 and where there is none
unfoldable pub round_up : ℕ → ℕ
round_up zero = 0
round_up (suc v) = first_of 64 1 (suc v)
