-- The worked examples that document 01 marks with a star, all of them, as a single table.
use Rattle.std.specs.Prelude.{[], map, ◌≡◌, ℕ}
use Rattle.hashers.specs.Writes.{taken, simple_write, murmur_write, fnv_write, fnv_start}
use Rattle.rules.specs.Cells.{Cells, is_live}
use Rattle.rules.specs.Sound.{count}
use Rattle.rules.specs.Growth.{sample, first_size}
use Rattle.laws.specs.Examples as fixed
use Rattle.growthlaws.specs.Worked as grows

-- the first size after Full at 8 cells, whatever the table and wherever Full was met, by its live cells
abbrev pub SizeAfter : (live size : ℕ) → Type 0
SizeAfter live size =
    (null : ℕ) (hash_of : ℕ → ℕ) (cs : Cells) (value : ℕ → ℕ) (carried : ℕ)
    → count (is_live (record { S = 8; null = null; hash_of = hash_of }) cs value) 8 ≡ live
    → first_size 8 (sample (record { S = 8; null = null; hash_of = hash_of }) cs value carried) ≡ size

pub record Marked : Type 0 where
  -- 1 to 7: each case's requests give its answers, its counts and its table
  pub one_to_seven : map fixed.ran fixed.examples ≡ map fixed.gives fixed.examples
  -- 8: the size after Full at S = 8 with live 0, 4, 5, 8; and with C = 8 live 4 is moved and 5 is NoRoom
  pub eight_sizes : SizeAfter 0 8 × SizeAfter 4 8 × SizeAfter 5 16 × SizeAfter 8 16
  pub eight_moves : map grows.ran grows.examples ≡ map grows.gives grows.examples
  -- 12: the empty string
  pub twelve : (murmur_write 0 [] ≡ taken 0) × (simple_write 0 [] ≡ taken 0) × (fnv_write fnv_start [] ≡ record { 0 = 0xcbf29ce484222325 })
