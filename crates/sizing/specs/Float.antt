-- The first size as the Rust computes it, each step in binary32.
use Rattle.std.specs.Prelude.{ℕ, ◌^◌, max, false, pos, Float}
use Rattle.std.specs.Float.Ieee as Ieee
use Rattle.std.specs.Float.{fin, binary32}
use Rattle.util.specs.Power.{round_up}
use Rattle.rules.specs.Sizes.{least_log}

-- 64.0 and 2.0
abbrev pub sixty_four : Float
sixty_four = fin false 1 (pos 6)

abbrev pub two : Float
two = fin false 1 (pos 1)

-- S as f32 * (n as f32 / 64.0) * 2.0
unfoldable pub estimated : (S n : ℕ) → Float
estimated S n =
    let ratio = Ieee.div binary32 (Ieee.of_int binary32 (pos n)) sixty_four in
    let in_use = Ieee.mul binary32 (Ieee.of_int binary32 (pos S)) ratio in
    Ieee.mul binary32 in_use two

-- cut to a whole number, rounded up to a power of two, at least the least size
unfoldable pub first_size_f32 : (S n : ℕ) → ℕ
first_size_f32 S n = max (2 ^ least_log) (round_up (Ieee.to_unsigned 64 (estimated S n)))
