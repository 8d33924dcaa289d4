-- A move stops under 4 or 5 alone, whatever the source and the destination. Assumes nothing.
use mathlib.Core.Bool.{Bool, true, false, cond}
use mathlib.Core.List.{List, []}
use mathlib.Core.Path.{◌≡◌, refl}
use Prim.Native.Nat.{ℕ, zero, suc, ◌+◌}
use lib.Dec.{eqb}
use Rattle.rules.specs.Cells.{Counts}
use Rattle.rules.specs.Answers.{Said, found, absent, new, replaced, revived, removed, refused, Change, Outcome}
use Rattle.rules.specs.Calls.{insert_stored}
use Rattle.rules.specs.Moves.{Held, held_after, Ended, all, stop, Moved, stop_with, cell_moved, move_cells, move_all}
use Rattle.movelaws.proofs.Steps as steps
use Rattle.movelaws.proofs.Steps.{WholeWay, whole_way}

-- all go over, or it stops under 4 or 5
pub data StopsBy (e : Ended) : Type 0 where
  no_stop : (c : Counts) → e ≡ all c → StopsBy e
  by4 : (l : List ℕ) → e ≡ stop 4 l → StopsBy e
  by5 : e ≡ stop 5 [] → StopsBy e

module _ (null : ℕ) (from : Held) (T : ℕ) where
  -- by the insert's answer
  cell_stops : (s : Said) (c : Change) (rest : Moved) → StopsBy rest.ended → StopsBy (cell_moved s c rest).ended
  cell_stops new c rest r = r
  cell_stops (refused n l) c rest r = go (eqb n 4)
    where
      go : (b : Bool) → StopsBy (cond {A = Moved} b (stop_with 4 l) (stop_with 5 [])).ended
      go true = by4 l refl
      go false = by5 refl
  cell_stops (found v) c rest r = by5 refl
  cell_stops absent c rest r = by5 refl
  cell_stops (replaced v) c rest r = by5 refl
  cell_stops revived c rest r = by5 refl
  cell_stops (removed v) c rest r = by5 refl

  -- from cell i on
  cells_stop : (left i : ℕ) (to : Held) (c : Counts) → StopsBy (move_cells null from T left i to c).ended
  unfolding move_cells
  cells_stop zero i to c = no_stop c refl
  cells_stop (suc left) i to c =
      go (eqb (from.value i) null) (eqb (from.cells.hash i) 0) _ _ (cells_stop left (i + 1) to c)
      (cell_stops o.said o.change _ (cells_stop left (i + 1) (held_after o.change to) o.counts))
    where
      o : Outcome
      o = insert_stored T null to.cells to.value c (from.cells.hash i) (from.cells.key i) (from.value i)

      go : (a b : Bool) (x y : Moved) → StopsBy x.ended → StopsBy y.ended → StopsBy (cond {A = Moved} a x (cond {A = Moved} b (stop_with 5 []) y)).ended
      go true b x y r s = r
      go false true x y r s = by5 refl
      go false false x y r s = s

-- so with a whole move
pub move_stops : (null S : ℕ) (from : Held) (c : Counts) (T : ℕ) (clear : Held) → StopsBy (move_all null S from c T clear).ended
move_stops null S from c T clear = go _ (whole_way null S from c T clear)
  where
    go : (w : Moved) → WholeWay null S from c T clear w → StopsBy w.ended
    go w (steps.went d q t x) = no_stop d (rw x q)
    go w (steps.miscounted d q t x) = by5 (rw x)
    go w (steps.halted n l q x) = rw x (cells_stop null from T S 0 clear (record { live = 0 }))
