-- How the answer of a call that inserts is read: each case by 01's number and values, with the entry that is handed back.
use Rattle.std.specs.Prelude.{List, [], ◌∷◌, ℕ, Result, Ok, Err}
use Rattle.rules.specs.Answers.{Said, found, new, replaced, revived, refused, Outcome}
use Rattle.rules.specs.Entries as rule
use Rattle.rules.specs.Entries.{entry_after}
use Rattle.cells.specs.Layout.{Left, left_by}
use Rattle.cells.specs.declared.Table.{Table}
use Rattle.entries.specs.Answers.{entry_in, left_as}
use Rattle.entryinsert.specs.declared.vacant.EntryInsertSaid.{EntryInsertSaid}
use Rattle.entryinsert.specs.declared.vacant.EntryInsertSaid.TheVariants as inserts
use Rattle.entryinsert.specs.declared.vacant.EntryInsertError.{EntryInsertError}
use Rattle.entryinsert.specs.declared.vacant.EntryInsertError.TheVariants as fails
use Rattle.entryinsert.specs.declared.giving.EntryInsertAnswer.{EntryInsertAnswer}

abbrev pub entry_put_said : EntryInsertSaid → Said
entry_put_said inserts.New = new
entry_put_said (inserts.Replaced v) = replaced v
entry_put_said inserts.Revived = revived
entry_put_said (inserts.Found v) = found v

abbrev pub entry_insert_failed : EntryInsertError → Said
entry_insert_failed fails.Shape = refused 1 []
entry_insert_failed fails.ZeroHash = refused 2 []
entry_insert_failed fails.Null = refused 3 []
entry_insert_failed (fails.Full at) = refused 4 (at.position ∷ [])
entry_insert_failed fails.Broken = refused 5 []
entry_insert_failed fails.Stale = refused 7 []

abbrev pub entry_insert_said : Result EntryInsertSaid EntryInsertError → Said
entry_insert_said (Ok s) = entry_put_said s
entry_insert_said (Err e) = entry_insert_failed e

-- with the entry that is handed back
pub record Handed : Type 0 where
  pub entry : rule.Entry
  pub left : Left

abbrev pub handed_by : Outcome → rule.Entry → Table → List ℕ → List ℕ → Handed
handed_by o e t ws ds = record { entry = entry_after e o.change; left = left_by o t ws ds }

abbrev pub insert_handed : EntryInsertAnswer → List ℕ → List ℕ → Handed
insert_handed r ws ds = record { entry = entry_in r.entry; left = left_as (entry_insert_said r.said) r.table ws ds }
