-- How a move ends, with the slices of its destination.
use Rattle.std.specs.Prelude.{cond, List, [], ◌∷◌, ℕ, eqb, Result, Ok, Err}
use Rattle.rules.specs.Cells.{Counts}
use Rattle.rules.specs.Moves.{Ended, all, stop, Moved, MoveOutcome}
use Rattle.cells.specs.Layout.{counts_of}
use Rattle.cells.specs.declared.insert.Put.{Put}
use Rattle.cells.specs.declared.insert.Put.TheVariants as says
use Rattle.cells.specs.declared.insert.WalkError.{WalkError}
use Rattle.cells.specs.declared.insert.WalkError.TheVariants.{Full, Broken}
use Rattle.moving.specs.Slices.{words_after_all, deltas_after_all, words_become, deltas_become}

-- each case by 01's number and with what it carries
abbrev pub end_of : Result ℕ WalkError → Ended
end_of (Ok live) = all (counts_of live)
end_of (Err (Full at)) = stop 4 (at.position ∷ [])
end_of (Err Broken) = stop 5 []

-- by the insert's answer for a cell: a refusal is the move's, any other answer but New is 5
abbrev pub end_after : Put → ℕ → Result ℕ WalkError
end_after says.New live = Ok live
end_after (says.Replaced old) live = Err Broken
end_after says.Revived live = Err Broken
end_after (says.Full at) live = Err (Full at)
end_after says.Broken live = Err Broken

-- the total comes last: it must be live
abbrev pub end_totalled : ℕ → Result ℕ WalkError → Result ℕ WalkError
end_totalled live (Ok total) = cond (eqb total live) (Ok total) (Err Broken)
end_totalled live (Err e) = Err e

-- where all cells went over, the counts and both slices; where one did not, the refusal alone: the slices are cleared next
pub data Placed : Type 0 where
  over : Counts → (ws ds : List ℕ) → Placed
  stops : ℕ → List ℕ → Placed

abbrev pub placed : Ended → List ℕ → List ℕ → Placed
placed (all c) ws ds = over c ws ds
placed (stop n l) ws ds = stops n l

abbrev pub placed_by : Moved → List ℕ → List ℕ → Placed
placed_by m ws ds = placed m.ended (words_after_all m.fills ws) (deltas_after_all m.fills ds)

-- how a move ended, and both slices of the destination afterwards
pub record Into : Type 0 where
  pub ended : Ended
  pub words : List ℕ
  pub deltas : List ℕ

-- in a destination of C cells
abbrev pub into_by : ℕ → MoveOutcome → List ℕ → List ℕ → Into
into_by C o ws ds =
    record { ended = o.ended; words = words_become C o.to ws; deltas = deltas_become C o.to ds }
