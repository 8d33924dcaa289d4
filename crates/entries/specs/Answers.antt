-- How the entry record is read, and what a call left.
use Rattle.std.specs.Prelude.{List, ℕ}
use Rattle.rules.specs.Answers.{Said}
use Rattle.rules.specs.Entries as rule
use Rattle.cells.specs.Layout.{Left, counts_of}
use Rattle.cells.specs.declared.Table.{Table}
use Rattle.entries.specs.declared.record.Place.{Place}
use Rattle.entries.specs.declared.record.Place.TheVariants.{Occupied, Vacant}
use Rattle.entries.specs.declared.record.Entry.{Entry}

abbrev pub place_of : Place → rule.Place
place_of (Occupied cell) = rule.occupied cell.index
place_of Vacant = rule.vacant

abbrev pub entry_in : Entry → rule.Entry
entry_in e = record { key = e.key; hash = e.hash; place = place_of e.place }

-- what a call left: its answer, the record and both slices, with no count
abbrev pub left_as : Said → Table → List ℕ → List ℕ → Left
left_as s t ws ds =
    record { done = record { said = s; looked = 0; counts = counts_of t.live; words = ws; deltas = ds }; hasher = t.hasher }
