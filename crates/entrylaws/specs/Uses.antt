-- When an entry is Stale, in 01's words, and the ways in which a use can end.
use Rattle.std.specs.Prelude.{[], ◌≢◌, ◌≡◌, ℕ, ◌-◌, ◌≤◌}
use Rattle.rules.specs.Cells.{Lent, zero_hash}
use Rattle.rules.specs.Answers.{found, replaced, removed, refused, store, Outcome, leave}
use Rattle.rules.specs.Calls.{find, insert_stored}
use Rattle.rules.specs.Entries.{Place, occupied, vacant, Entry, Action, reading, keeping, replacing, removing, inserting, use_shape, offers, uncounted}

-- cell i holds the entry's hash and key live
pub record HoldsLive (l : Lent) (e : Entry) (i : ℕ) : Type 0 where
  pub hash : l.cells.hash i ≡ e.hash
  pub key : l.cells.key i ≡ e.key
  pub taken : l.cells.hash i ≢ 0
  pub live : l.value i ≢ l.params.null

-- an action of the other case: to insert is a Vacant entry's, all else an Occupied one's
abbrev pub OtherCase : Place → Action → Type 0
OtherCase (occupied i) (inserting v) = Unit
OtherCase (occupied i) reading = ⊥
OtherCase (occupied i) (keeping v) = ⊥
OtherCase (occupied i) (replacing v) = ⊥
OtherCase (occupied i) removing = ⊥
OtherCase vacant (inserting v) = ⊥
OtherCase vacant reading = Unit
OtherCase vacant (keeping v) = Unit
OtherCase vacant (replacing v) = Unit
OtherCase vacant removing = Unit

pub data StaleWhen (l : Lent) (e : Entry) (a : Action) : Type 0 where
  -- an Occupied one whose cell no longer holds that hash and key live
  lost : (i : ℕ) → e.place ≡ occupied i → (HoldsLive l e i → ⊥) → StaleWhen l e a
  -- a Vacant one whose key a find gives as Found
  there : (v : ℕ) → e.place ≡ vacant → (find l e.key).said ≡ found v → StaleWhen l e a
  -- one whose hash is not its key's
  other_hash : e.hash ≢ l.params.hash_of e.key → StaleWhen l e a
  -- one used for the other case's action
  other_case : OtherCase e.place a → StaleWhen l e a

-- checks 1, 3 and 2 let the use past
pub record Past (l : Lent) (e : Entry) (a : Action) : Type 0 where
  pub shape : use_shape l e.place ≡ 0
  pub offer : offers l.params.null a ≡ 0
  pub hash : zero_hash (l.params.hash_of e.key) ≡ 0

-- past every check: Occupied at cell i
pub record Usable (l : Lent) (e : Entry) (a : Action) (i : ℕ) : Type 0 where
  pub past : Past l e a
  pub at : e.place ≡ occupied i
  pub own : e.hash ≡ l.params.hash_of e.key
  pub there : HoldsLive l e i

-- past every check: Vacant
pub record Insertable (l : Lent) (e : Entry) (a : Action) : Type 0 where
  pub past : Past l e a
  pub at : e.place ≡ vacant
  pub own : e.hash ≡ l.params.hash_of e.key
  pub unfound : (v : ℕ) → (find l e.key).said ≢ found v

-- an action that leaves the value
abbrev pub Reads : Action → Type 0
Reads reading = Unit
Reads (keeping v) = Unit
Reads (replacing v) = ⊥
Reads removing = ⊥
Reads (inserting v) = ⊥

pub data UseWay (l : Lent) (e : Entry) (a : Action) (o : Outcome) : Type 0 where
  -- the checks in their order, each with all left
  by1 : use_shape l e.place ≡ 1 → o ≡ leave (refused 1 []) 0 l.counts → UseWay l e a o
  by3 : use_shape l e.place ≡ 0 → offers l.params.null a ≡ 3 → o ≡ leave (refused 3 []) 0 l.counts → UseWay l e a o
  by2 : use_shape l e.place ≡ 0 → offers l.params.null a ≡ 0 → zero_hash (l.params.hash_of e.key) ≡ 2
      → o ≡ leave (refused 2 []) 0 l.counts
      → UseWay l e a o
  by7 : Past l e a → StaleWhen l e a → o ≡ leave (refused 7 []) 0 l.counts → UseWay l e a o
  -- the value is read, or kept
  reads : (i : ℕ) → Usable l e a i → Reads a → o ≡ leave (found (l.value i)) 0 l.counts → UseWay l e a o
  -- replaced, at the cell
  replaces : (i v : ℕ) → Usable l e a i → a ≡ replacing v
      → o ≡ record { said = replaced (l.value i); looked = 0; counts = l.counts; change = store i v }
      → UseWay l e a o
  -- removed, at the cell, with live above 0
  removes : (i : ℕ) → Usable l e a i → a ≡ removing → 1 ≤ l.counts.live
      → o ≡ record { said = removed (l.value i); looked = 0; counts = record { live = l.counts.live - 1 }; change = store i l.params.null }
      → UseWay l e a o
  -- or Broken, with live 0
  under : (i : ℕ) → Usable l e a i → a ≡ removing → l.counts.live ≡ 0 → o ≡ leave (refused 5 []) 0 l.counts → UseWay l e a o
  -- inserted, whose own walk answers
  inserts : (v : ℕ) → Insertable l e a → a ≡ inserting v
      → o ≡ uncounted (insert_stored l.params.S l.params.null l.cells l.value l.counts (l.params.hash_of e.key) e.key v)
      → UseWay l e a o
