-- A plain move, on what is lent: what a destination comes to hold, and the new table.
use Rattle.std.specs.Prelude.{true, ℕ}
use Rattle.rules.specs.Cells.{Counts, Lent}
use Rattle.rules.specs.Moves.{Held, held_after_all, Became, stays, cleared}
use Rattle.movelaws.specs.Movable.{at_size}

-- what a table or a half holds once this became of it: what it held before, or what it holds once cleared, with the changes
abbrev pub held_become : (clear : Held) → Became → Held → Held
held_become clear (stays l) t = held_after_all l t
held_become clear (cleared l) t = held_after_all l clear

abbrev pub held_of : Lent → Held
held_of l = record { cells = l.cells; value = l.value }

-- a table of T cells with the source's hasher, lent
abbrev pub lent_moved : Lent → (T : ℕ) → Held → Counts → Lent
lent_moved l T t c = record { shaped = true; params = at_size l.params T; cells = t.cells; value = t.value; counts = c }
