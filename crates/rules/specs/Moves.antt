-- A move: the live cells of a table go into a cleared one, in index order, by their stored hashes.
use Rattle.std.specs.Prelude.{Bool, cond, List, [], ◌∷◌, ℕ, zero, suc, ◌+◌, eqb}
use Rattle.rules.specs.Cells.{Cells, Counts, Lent, shape}
use Rattle.rules.specs.Answers.{Said, found, absent, new, replaced, revived, removed, refused, Change, changed, value_changed}
use Rattle.rules.specs.Calls.{insert_stored}

-- what cells hold: what a walk reads, and the values
pub record Held : Type 0 where
  pub cells : Cells
  pub value : ℕ → ℕ

abbrev pub held_after : Change → Held → Held
held_after c t = record { cells = changed c t.cells; value = value_changed c t.value }

-- the changes of a list, in its order
abbrev pub held_after_all : List Change → Held → Held
held_after_all [] t = t
held_after_all (c ∷ l) t = held_after_all l (held_after c t)

-- what becomes of a lent table or half: it stays, but for these changes; or it is cleared whole, and then these are made
pub data Became : Type 0 where
  stays : List Change → Became
  cleared : List Change → Became

-- ---- the cells that go over

-- how it ends: all went over, with the counts of the new table; or a refusal by its number, with what it carries
pub data Ended : Type 0 where
  all : Counts → Ended
  stop : ℕ → List ℕ → Ended

-- with the cells that were filled, in order
pub record Moved : Type 0 where
  pub ended : Ended
  pub fills : List Change

abbrev pub stop_with : ℕ → List ℕ → Moved
stop_with n l = record { ended = stop n l; fills = [] }

-- by the insert's answer for a cell: after New the rest follows; Full is 4, any other answer is 5
abbrev pub cell_moved : Said → Change → Moved → Moved
cell_moved new c rest = record { ended = rest.ended; fills = c ∷ rest.fills }
cell_moved (refused n l) c rest = cond (eqb n 4) (stop_with 4 l) (stop_with 5 [])
cell_moved (found v) c rest = stop_with 5 []
cell_moved absent c rest = stop_with 5 []
cell_moved (replaced v) c rest = stop_with 5 []
cell_moved revived c rest = stop_with 5 []
cell_moved (removed v) c rest = stop_with 5 []

-- so many cells of a table, from cell i on, go into a table of T cells. A cell with the value null is empty or removed and stays
-- behind; hash 0 with another value is 5.
unfoldable pub move_cells : (null : ℕ) → Held → (T left i : ℕ) → Held → Counts → Moved
move_cells null from T zero i to c = record { ended = all c; fills = [] }
move_cells null from T (suc left) i to c =
    let o = insert_stored T null to.cells to.value c (from.cells.hash i) (from.cells.key i) (from.value i) in
    let behind = move_cells null from T left (i + 1) to c in
    let rest = move_cells null from T left (i + 1) (held_after o.change to) o.counts in
    cond (eqb (from.value i) null) behind
    (cond (eqb (from.cells.hash i) 0) (stop_with 5 []) (cell_moved o.said o.change rest))

-- the total comes last: it must be the source's live
abbrev pub totalled : ℕ → Moved → Ended → Moved
totalled live m (all c) = cond (eqb c.live live) m (stop_with 5 [])
totalled live m (stop n l) = m

-- all S cells, into a cleared table of T cells, which holds `clear`
unfoldable pub move_all : (null S : ℕ) → Held → Counts → (T : ℕ) → (clear : Held) → Moved
move_all null S from c T clear =
    let m = move_cells null from T S 0 clear (record { live = 0 }) in
    totalled c.live m m.ended

-- ---- the plain move

pub record MoveOutcome : Type 0 where
  pub ended : Ended
  pub to : Became

-- a refused one clears the destination
abbrev pub move_end : Moved → Ended → MoveOutcome
move_end m (all c) = record { ended = all c; to = cleared m.fills }
move_end m (stop n l) = record { ended = stop n l; to = cleared [] }

-- check 1 of both comes first, and leaves all
abbrev pub unless_move : ℕ → MoveOutcome → MoveOutcome
unless_move zero o = o
unless_move (suc n) o = record { ended = stop (suc n) []; to = stays [] }

-- from a table into a destination: whether that is shaped, how many cells it has, and what it holds once cleared
unfoldable pub move : Lent → (shaped : Bool) (T : ℕ) (clear : Held) → MoveOutcome
move l shaped T clear =
    let from : Held = record { cells = l.cells; value = l.value } in
    let m = move_all l.params.null l.params.S from l.counts T clear in
    unless_move (cond shaped (shape l) 1) (move_end m m.ended)
