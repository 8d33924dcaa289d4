-- The sizes of a table.
use Rattle.std.specs.Prelude.{Bool, false, ◌||◌, ℕ, zero, suc, ◌+◌, ◌-◌, ◌^◌, min, eqb}

-- the least size is 8, the greatest 65,536: by their binary logarithms
abbrev pub least_log : ℕ
least_log = 3

abbrev pub greatest_log : ℕ
greatest_log = 16

-- s is one of the n powers of two from the least size on
unfoldable pub is_power : ℕ → ℕ → Bool
is_power zero s = false
is_power (suc n) s = eqb s (2 ^ (n + least_log)) || is_power n s

-- an allowed size: a power of two from the least to the greatest
unfoldable pub is_size : ℕ → Bool
is_size s = is_power (suc greatest_log - least_log) s

abbrev pub probe_limit : ℕ
probe_limit = 128

-- P, the number of positions that a probe looks at: no more than 128, and no more than the cells past the tail
abbrev pub window : ℕ → ℕ
window S = min probe_limit (S - 1)
