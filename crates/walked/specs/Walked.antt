-- What a run of steps says, and the live cells of a table in index order.
use Rattle.std.specs.Prelude.{Bool, cond, List, [], ◌∷◌, map, ℕ, zero, suc, ◌+◌, ◌-◌}
use Rattle.rules.specs.Cells.{Lent, is_live}
use Rattle.rules.specs.Cursor.{start, StepSaid, next, end, refusal, step}

-- what n steps say, one after the other, from a position on
unfoldable pub says : Lent → (n position : ℕ) → List StepSaid
says l zero position = []
says l (suc n) position = let s = step l position in s.said ∷ says l n s.position

-- what is said until no cell is handed back
abbrev pub until_end : List StepSaid → List StepSaid
until_end [] = []
until_end (next i k v ∷ xs) = next i k v ∷ until_end xs
until_end (end ∷ xs) = []
until_end (refusal n ∷ xs) = []

-- a table walked from the start until the end: S + 1 steps, of which the last says the end, are enough
abbrev pub walked : Lent → List StepSaid
walked l = until_end (says l (l.params.S + 1) start)

-- ---- the live cells

-- the n numbers from i on
unfoldable pub numbers : (n i : ℕ) → List ℕ
numbers zero i = []
numbers (suc n) i = i ∷ numbers n (i + 1)

-- those of a list that pass a test
unfoldable pub passing : (ℕ → Bool) → List ℕ → List ℕ
passing test [] = []
passing test (i ∷ is) = let rest = passing test is in cond (test i) (i ∷ rest) rest

-- a cell, as a step hands it back
abbrev pub cell_at : Lent → ℕ → StepSaid
cell_at l i = next i (l.cells.key i) (l.value i)

-- the live cells from index i on, in index order
abbrev pub live_from : Lent → ℕ → List StepSaid
live_from l i = map (cell_at l) (passing (is_live l.params l.cells l.value) (numbers (l.params.S - i) i))

-- all live cells, in index order
abbrev pub live_cells : Lent → List StepSaid
live_cells l = live_from l 0
