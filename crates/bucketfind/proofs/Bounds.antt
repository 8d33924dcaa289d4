-- What an allowed size says of the buckets and their count. Assumes nothing.
use Rattle.std.proofs.Common.{◌≡◌, ℕ, ◌*◌, ◌/◌, ◌%◌, ◌<◌, ◌≤◌, true, false, refl, arith}
use Rattle.rules.specs.Sizes.{is_size}
use Rattle.steps.proofs.Sizes.{no_size, size_greatest}
use Rattle.cells.proofs.Shapes.{cell_lt}

pub too_many : (n : ℕ) → 16384 < n → is_size (4 * n) ≡ false
too_many n h = no_size (4 * n) (λ e. omega (arith, size_greatest _ e))

pub most : (n : ℕ) → is_size (4 * n) ≡ true → n ≤ 16384
most n e = omega (arith, size_greatest _ e)

-- the bucket of a position is one of them
pub bucket_there : (n p : ℕ) → is_size (4 * n) ≡ true → p % (4 * n) / 4 < n
bucket_there n p e = let m : p % (4 * n) < 4 * n = cell_lt (4 * n) p _ e refl in omega arith
