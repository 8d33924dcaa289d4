-- What is tried first after Full: a sample of the table, and the size that it asks for.
use Rattle.std.specs.Prelude.{ℕ, ◌-◌, ◌*◌, ◌/◌, ◌%◌, ◌^◌, max}
use Rattle.util.specs.Power.{round_up}
use Rattle.rules.specs.Sizes.{least_log}
use Rattle.rules.specs.Cells.{Params, Cells, is_live}
use Rattle.rules.specs.Walk.{on}
use Rattle.rules.specs.Sound.{count}

-- how many positions a sample looks at
abbrev pub sampled : ℕ
sampled = 64

-- they start at the number that Full carried minus 64, wrapping
abbrev pub sample_start : ℕ → ℕ
sample_start carried = on carried (2 ^ 64 - sampled)

-- n: how many of them have a live cell. Where S is below 64 cells are seen again, and count again.
unfoldable pub sample : Params → Cells → (ℕ → ℕ) → (carried : ℕ) → ℕ
sample p cs value carried = count (λ i. is_live p cs value (on (sample_start carried) i % p.S)) sampled

-- the first size to try: S*n/32, twice the share n/64 of S, rounded up to a power of two, and at least the least size
unfoldable pub first_size : (S n : ℕ) → ℕ
first_size S n = max (2 ^ least_log) (round_up (S * n / 32))
