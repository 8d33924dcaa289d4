-- The smallest table on which replacing by an entry and inserting its key part: an empty home with a first delta. Hasher: Simple.
use Rattle.std.specs.Prelude.{◌∷◌, replicate}
use Rattle.hashers.specs.declared.Hasher.TheVariants.{Simple}
use Rattle.rules.specs.Cells.{Lent}
use Rattle.rules.specs.Answers.{new, replaced, unlinked, store, fill, Outcome}
use Rattle.rules.specs.Entries.{occupied, Entry}
use Rattle.cells.specs.Layout.{null, counts_of, lent, fresh_words}

-- eight cells: key 8 with the value 5 in cell 1, and its home, cell 0, empty with first delta 1
abbrev pub apart : Lent
apart = lent (0 ∷ 0 ∷ null ∷ 8 ∷ 8 ∷ 5 ∷ fresh_words 6) (1 ∷ replicate 15 0) (record { hasher = Simple; live = 1 })

-- the entry of key 8
abbrev pub entry8 : Entry
entry8 = record { key = 8; hash = 8; place = occupied 1 }

-- replacing 5 by 9: at the cell
abbrev pub replaced8 : Outcome
replaced8 = record { said = replaced 5; looked = 0; counts = counts_of 1; change = store 1 9 }

-- inserting 8 with 9: the empty home is used at once
abbrev pub inserted8 : Outcome
inserted8 = record { said = new; looked = 0; counts = counts_of 2; change = fill 0 8 8 9 unlinked }
