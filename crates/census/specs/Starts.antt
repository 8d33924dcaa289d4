-- Where a history starts.
use Rattle.std.specs.Prelude.{ℕ}
use Rattle.hashers.specs.declared.Hasher.{Hasher}
use Rattle.rules.specs.Sound.{Fresh}
use Rattle.cells.specs.Layout.{fresh_words, fresh_deltas}
use Rattle.halves.specs.Answers.{four, fresh_growing}
use Rattle.census.specs.Stores.{Store, alone, halved, table_in}

-- the table is fresh: all empty, deltas 0, and live 0
abbrev pub FreshTable : Store → Type 0
FreshTable s = Fresh (table_in s).params (table_in s).cells (table_in s).value (table_in s).counts

-- as clear makes it of two slices of S cells
abbrev pub fresh_alone : (S : ℕ) → Hasher → Store
fresh_alone S hasher = alone (record { words = fresh_words S; deltas = fresh_deltas S; table = record { hasher = hasher; live = 0 } })

-- and of two halves of C cells, with a table of this size
abbrev pub fresh_halved : (C size : ℕ) → Hasher → Store
fresh_halved C size hasher =
    halved (record { slices = four (fresh_words C) (fresh_deltas C) (fresh_words C) (fresh_deltas C); growing = fresh_growing size hasher })
