-- How the workers' own types are read.
use Rattle.std.specs.Prelude.{◌≡◌, ℕ, ◌+◌, List, [], ◌∷◌, length, Option, Some, None, Result, Ok, Err}
use Rattle.rules.specs.Cells.{Cells, Counts}
use Rattle.rules.specs.Walk as rule
use Rattle.rules.specs.Walk.{probe_from}
use Rattle.rules.specs.Answers.{Said, found, absent, new, replaced, revived, removed, refused, Change, nothing, store, fill, Outcome}
use Rattle.rules.specs.Calls.{insert_hit}
use Rattle.rules.specs.Entries.{Place, occupied, vacant}
use Rattle.cells.specs.Layout.{Done, done_by, counts_of}
use Rattle.cells.specs.declared.walk.Stop.{Stop}
use Rattle.cells.specs.declared.walk.Stop.TheVariants.{Met, Tail, Broken}
use Rattle.cells.specs.declared.insert.InsertSaid.{InsertSaid}
use Rattle.cells.specs.declared.insert.InsertSaid.TheVariants as says
use Rattle.cells.specs.declared.insert.WalkError.{WalkError}
use Rattle.cells.specs.declared.insert.WalkError.TheVariants as fails
use Rattle.cells.specs.declared.insert.Put.{Put}
use Rattle.cells.specs.declared.insert.Put.TheVariants as puts
use Rattle.cells.specs.declared.insert.Inserted.{Inserted}

abbrev pub stop_of : Stop → rule.Stop
stop_of (Met q) = rule.met q
stop_of (Tail q) = rule.tail q
stop_of Broken = rule.broken

abbrev pub hit_of : Option ℕ → rule.Hit
hit_of (Some d) = rule.free d
hit_of None = rule.none

-- each case of an insert's answer, with what it carries
abbrev pub put_said : InsertSaid → Said
put_said says.New = new
put_said (says.Replaced old) = replaced old
put_said says.Revived = revived

-- and each of a worker's, by 01's number
abbrev pub walk_failed : WalkError → Said
walk_failed (fails.Full at) = refused 4 (at.position ∷ [])
walk_failed fails.Broken = refused 5 []

abbrev pub answer_said : Result InsertSaid WalkError → Said
answer_said (Ok s) = put_said s
answer_said (Err e) = walk_failed e

-- a worker's answer as a Result, and what it says
abbrev pub answer_of : Put → Result InsertSaid WalkError
answer_of puts.New = Ok says.New
answer_of (puts.Replaced old) = Ok (says.Replaced old)
answer_of puts.Revived = Ok says.Revived
answer_of (puts.Full at) = Err (fails.Full at)
answer_of puts.Broken = Err fails.Broken

abbrev pub worker_said : Put → Said
worker_said p = answer_said (answer_of p)

-- what an insert's worker did, with the slices that it left
abbrev pub insert_done : Inserted → List ℕ → List ℕ → Done
insert_done r ws ds =
    record { said = worker_said r.said; looked = r.looked; counts = counts_of r.live; words = ws; deltas = ds }

-- the place of a key after an insert's answer, where i is the cell that it changed
abbrev pub place_by : ℕ → Said → Place
place_by i new = occupied i
place_by i (replaced v) = occupied i
place_by i revived = occupied i
place_by i (found v) = vacant
place_by i absent = vacant
place_by i (removed v) = vacant
place_by i (refused n l) = vacant

-- and after a change: the cell that was changed
abbrev pub place_after : Change → Place
place_after nothing = vacant
place_after (store i v) = occupied i
place_after (fill i h k v l) = occupied i

-- i is the cell of what an insert changes, if it changes any
abbrev pub CellOf : ℕ → Outcome → Type 0
CellOf i o = place_by i o.said ≡ place_after o.change

-- a worker did what the outcome says, from the slices ws and ds, and names the cell that was changed
pub record InsertedBy (r : Inserted) (o : Outcome) (ws ds ws' ds' : List ℕ) : Type 0 where
  pub done : insert_done r ws' ds' ≡ done_by o ws ds
  pub cell : CellOf r.at o

-- an insert from the tail q of a walk that looked at n cells
unfoldable pub insert_tail : (S : ℕ) → Cells → Counts → (n h k v q : ℕ) → Outcome
insert_tail S cs c n h k v q = insert_hit S c (n + length (probe_from S cs q).seen) n h k v q (probe_from S cs q).hit
