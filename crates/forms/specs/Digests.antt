-- How a number is taken into a digest.
use Rattle.std.specs.Prelude.{ℕ, ◌*◌, ◌/◌, ◌%◌, ◌^◌}
use Rattle.std.specs.Int.Bits.{bit_xor}

-- the upper half goes into the lower one
abbrev pub folded : ℕ → ℕ
folded product = bit_xor product (product / 2 ^ 32)

-- the factor is odd, near 2^64 divided by the golden ratio
abbrev pub mix_of : ℕ → ℕ → ℕ
mix_of digest x = folded (bit_xor digest x * 0x9e3779b97f4a7c15 % 2 ^ 64)
