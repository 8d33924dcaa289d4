-- A use on a sound table, by the state of the entry's key.
use Rattle.std.specs.Prelude.{List, [], ◌≢◌, ◌≡◌, ℕ}
use Rattle.rules.specs.Cells.{Lent}
use Rattle.rules.specs.Answers.{Said, found, refused, Outcome, leave}
use Rattle.rules.specs.Calls.{insert, remove}
use Rattle.rules.specs.Entries.{Entry, Action, reading, keeping, replacing, removing, inserting, uncounted}
use Rattle.sound.specs.State.{State, removed_cell, live_cell, finds, inserts, removes, state_of}
use Rattle.entrylaws.specs.Uses.{Reads, Past}

-- a value that is put under the key
abbrev pub Puts : Action → ℕ → Type 0
Puts reading v = ⊥
Puts (keeping x) v = ⊥
Puts (replacing x) v = x ≡ v
Puts removing v = ⊥
Puts (inserting x) v = x ≡ v

-- refused by a check; or the value is read; or as insert with the entry's key, or as remove with it
pub data UseAs (l : Lent) (e : Entry) (a : Action) (o : Outcome) : Type 0 where
  checked : (n : ℕ) → n ≢ 5 → o ≡ leave (refused n []) 0 l.counts → UseAs l e a o
  as_find : (v : ℕ) → Reads a → state_of l e.key ≡ live_cell v → o ≡ leave (found v) 0 l.counts → UseAs l e a o
  as_insert : (v : ℕ) → Past l e a → Puts a v → o ≡ uncounted (insert l e.key v) → UseAs l e a o
  as_remove : (v : ℕ) → Past l e a → a ≡ removing → state_of l e.key ≡ live_cell v → o ≡ uncounted (remove l e.key) → UseAs l e a o

-- no check refuses the use, and it is not Full
abbrev pub Unrefused : Said → Type 0
Unrefused s = (n : ℕ) (x : List ℕ) → s ≢ refused n x

-- what a use says of a key in state s, and the state that it leaves the key in
abbrev pub says_by : Action → State → Said
says_by reading s = finds s
says_by (keeping v) s = finds s
says_by (replacing v) s = inserts s
says_by removing s = removes s
says_by (inserting v) s = inserts s

abbrev pub leaves_by : Action → State → State
leaves_by reading s = s
leaves_by (keeping v) s = s
leaves_by (replacing v) s = live_cell v
leaves_by removing s = removed_cell
leaves_by (inserting v) s = live_cell v
