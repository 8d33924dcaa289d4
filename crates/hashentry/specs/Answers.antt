-- How the calls' own types are read: each case of each answer by 01's number and values, and what a call left.
use Rattle.std.specs.Prelude.{List, [], ℕ, Result, Ok, Err}
use Rattle.rules.specs.Answers.{Said, found, replaced, removed, refused}
use Rattle.rules.specs.Entries.{Making, made, refuses}
use Rattle.cells.specs.Layout.{Left}
use Rattle.cells.specs.declared.Table.{Table}
use Rattle.entries.specs.declared.record.Entry.{Entry}
use Rattle.entries.specs.Answers.{entry_in, left_as}
use Rattle.hashmap.specs.declared.LookupError.{LookupError}
use Rattle.hashmap.specs.declared.LookupError.TheVariants as lookups
use Rattle.hashentry.specs.declared.occupied.GetError.{GetError}
use Rattle.hashentry.specs.declared.occupied.GetError.TheVariants as gets
use Rattle.hashentry.specs.declared.occupied.ReplaceError.{ReplaceError}
use Rattle.hashentry.specs.declared.occupied.ReplaceError.TheVariants as replaces
use Rattle.hashentry.specs.declared.occupied.EntryRemoveError.{EntryRemoveError}
use Rattle.hashentry.specs.declared.occupied.EntryRemoveError.TheVariants as removes
use Rattle.hashentry.specs.declared.occupied.EntryRemoveAnswer.{EntryRemoveAnswer}
use Rattle.hashentry.specs.declared.occupied.RemoveEntryAnswer.{RemoveEntryAnswer}

abbrev pub making : Result Entry LookupError → Making
making (Ok e) = made (entry_in e)
making (Err lookups.Shape) = refuses 1
making (Err lookups.ZeroHash) = refuses 2
making (Err lookups.Broken) = refuses 5

abbrev pub get_failed : GetError → Said
get_failed gets.Shape = refused 1 []
get_failed gets.ZeroHash = refused 2 []
get_failed gets.Stale = refused 7 []

abbrev pub get_said : Result ℕ GetError → Said
get_said (Ok v) = found v
get_said (Err e) = get_failed e

abbrev pub replace_failed : ReplaceError → Said
replace_failed replaces.Shape = refused 1 []
replace_failed replaces.ZeroHash = refused 2 []
replace_failed replaces.Null = refused 3 []
replace_failed replaces.Stale = refused 7 []

abbrev pub replace_said : Result ℕ ReplaceError → Said
replace_said (Ok v) = replaced v
replace_said (Err e) = replace_failed e

-- the record is as it was lent
abbrev pub replace_left : Table → Result ℕ ReplaceError → List ℕ → List ℕ → Left
replace_left t r ws ds = left_as (replace_said r) t ws ds

abbrev pub entry_remove_failed : EntryRemoveError → Said
entry_remove_failed removes.Shape = refused 1 []
entry_remove_failed removes.ZeroHash = refused 2 []
entry_remove_failed removes.Broken = refused 5 []
entry_remove_failed removes.Stale = refused 7 []

abbrev pub entry_remove_said : Result ℕ EntryRemoveError → Said
entry_remove_said (Ok v) = removed v
entry_remove_said (Err e) = entry_remove_failed e

abbrev pub remove_left : EntryRemoveAnswer → List ℕ → List ℕ → Left
remove_left r ws ds = left_as (entry_remove_said r.said) r.table ws ds

-- with the key beside
pub record Keyed : Type 0 where
  pub key : ℕ
  pub left : Left

abbrev pub with_key : ℕ → Left → Keyed
with_key k l = record { key = k; left = l }

abbrev pub remove_entry_left : RemoveEntryAnswer → List ℕ → List ℕ → Keyed
remove_entry_left r ws ds = with_key r.key (left_as (entry_remove_said r.said) r.table ws ds)
