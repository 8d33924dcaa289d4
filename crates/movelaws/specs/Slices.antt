-- A plain move on slices: from a table on two slices and its record into the two slices of a destination.
use Rattle.std.specs.Prelude.{List, ℕ}
use Rattle.rules.specs.Cells.{Counts, Lent}
use Rattle.rules.specs.Moves.{MoveOutcome, move}
use Rattle.cells.specs.declared.Table.{Table}
use Rattle.cells.specs.Layout.{is_shaped, size_in, lent}
use Rattle.moving.specs.Slices.{clear_held, words_become, deltas_become}

abbrev pub move_on : (ws ds : List ℕ) → Table → (tws tds : List ℕ) → MoveOutcome
move_on ws ds t tws tds = move (lent ws ds t) (is_shaped tws tds) (size_in tds) (clear_held (size_in tds))

-- the destination's slices afterwards
abbrev pub words_moved : (ws ds : List ℕ) → Table → (tws tds : List ℕ) → List ℕ
words_moved ws ds t tws tds = words_become (size_in tds) (move_on ws ds t tws tds).to tws

abbrev pub deltas_moved : (ws ds : List ℕ) → Table → (tws tds : List ℕ) → List ℕ
deltas_moved ws ds t tws tds = deltas_become (size_in tds) (move_on ws ds t tws tds).to tds

-- lent with a record of the source's hasher
abbrev pub lent_to : (ws ds : List ℕ) → Table → (tws tds : List ℕ) → Counts → Lent
lent_to ws ds t tws tds c = lent (words_moved ws ds t tws tds) (deltas_moved ws ds t tws tds) (record { hasher = t.hasher; live = c.live })
