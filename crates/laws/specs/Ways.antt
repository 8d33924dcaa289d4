-- The ways in which a call can end, one by one, for the outcome o that it gives.
use Rattle.std.specs.Prelude.{[], ◌∷◌, ◌≢◌, ◌≡◌, ℕ, ◌+◌, ◌-◌, ◌%◌, ◌≤◌, ◌<◌, length}
use Rattle.rules.specs.Sizes.{window}
use Rattle.rules.specs.Cells.{Cells, Counts, Lent, shape, offered, zero_hash}
use Rattle.rules.specs.Walk.{met, tail, broken, walk, on, free, none, probe_from}
use Rattle.rules.specs.Answers.{Said, absent, new, replaced, revived, removed, refused, unlinked, Change, store, fill, Answer, Outcome, leave}
use Rattle.rules.specs.Calls.{link_from, insert_seen, insert_stored, remove_in, find_in}

-- an answer that adds 1 to live: given with its change where there is room, else Broken
pub data Added (S : ℕ) (c : Counts) (n : ℕ) (s : Said) (change : Change) (o : Outcome) : Type 0 where
  room : c.live < S → o ≡ record { said = s; looked = n; counts = record { live = c.live + 1 }; change = change } → Added S c n s change o
  over : S ≤ c.live → o ≡ leave (refused 5 []) n c → Added S c n s change o

-- an insert past the checks
pub data InsertWay (S null : ℕ) (cs : Cells) (value : ℕ → ℕ) (c : Counts) (h k v : ℕ) (o : Outcome) : Type 0 where
  -- the home is empty
  homed : cs.hash (h % S) ≡ 0
      → Added S c (length (insert_seen S cs h k)) new (fill (h % S) h k v unlinked) o
      → InsertWay S null cs value c h k v o
  -- met, with a value
  replaces : (q : ℕ) → cs.hash (h % S) ≢ 0 → (walk S cs h k).stop ≡ met q → value (q % S) ≢ null
      → o ≡ record { said = replaced (value (q % S)); looked = length (insert_seen S cs h k); counts = c; change = store (q % S) v }
      → InsertWay S null cs value c h k v o
  -- met, and removed
  revives : (q : ℕ) → cs.hash (h % S) ≢ 0 → (walk S cs h k).stop ≡ met q → value (q % S) ≡ null
      → Added S c (length (insert_seen S cs h k)) revived (store (q % S) v) o
      → InsertWay S null cs value c h k v o
  -- not met, with an empty cell in the window
  linked : (q d : ℕ) → cs.hash (h % S) ≢ 0 → (walk S cs h k).stop ≡ tail q → (probe_from S cs q).hit ≡ free d
      → Added S c (length (insert_seen S cs h k)) new (fill (on q d % S) h k v (link_from S (length (walk S cs h k).seen) h q d)) o
      → InsertWay S null cs value c h k v o
  -- not met, with none
  full : (q : ℕ) → cs.hash (h % S) ≢ 0 → (walk S cs h k).stop ≡ tail q → (probe_from S cs q).hit ≡ none
      → o ≡ leave (refused 4 (on q (window S + 1) ∷ [])) (length (insert_seen S cs h k)) c
      → InsertWay S null cs value c h k v o
  -- the walk is broken
  endless : cs.hash (h % S) ≢ 0 → (walk S cs h k).stop ≡ broken
      → o ≡ leave (refused 5 []) (length (insert_seen S cs h k)) c
      → InsertWay S null cs value c h k v o

-- a remove past the checks
pub data RemoveWay (S null : ℕ) (cs : Cells) (value : ℕ → ℕ) (c : Counts) (h k : ℕ) (o : Outcome) : Type 0 where
  -- not met
  lacks : (q : ℕ) → (walk S cs h k).stop ≡ tail q
      → o ≡ leave absent (length (walk S cs h k).seen) c
      → RemoveWay S null cs value c h k o
  -- met, and removed already
  gone : (q : ℕ) → (walk S cs h k).stop ≡ met q → value (q % S) ≡ null
      → o ≡ leave absent (length (walk S cs h k).seen) c
      → RemoveWay S null cs value c h k o
  -- met, with a value, and live above 0
  removes : (q : ℕ) → (walk S cs h k).stop ≡ met q → value (q % S) ≢ null → 1 ≤ c.live
      → o ≡ record { said = removed (value (q % S)); looked = length (walk S cs h k).seen; counts = record { live = c.live - 1 }; change = store (q % S) null }
      → RemoveWay S null cs value c h k o
  -- met, with a value, and live 0
  under : (q : ℕ) → (walk S cs h k).stop ≡ met q → value (q % S) ≢ null → c.live ≡ 0
      → o ≡ leave (refused 5 []) (length (walk S cs h k).seen) c
      → RemoveWay S null cs value c h k o
  -- the walk is broken
  endless : (walk S cs h k).stop ≡ broken
      → o ≡ leave (refused 5 []) (length (walk S cs h k).seen) c
      → RemoveWay S null cs value c h k o

-- ---- the checks: 1, 3, 2 in this order, each with nothing looked at and all left; or the call goes past them

pub data InsertChecked (l : Lent) (k v : ℕ) (o : Outcome) : Type 0 where
  by1 : shape l ≡ 1 → o ≡ leave (refused 1 []) 0 l.counts → InsertChecked l k v o
  by3 : shape l ≡ 0 → offered l.params.null v ≡ 3 → o ≡ leave (refused 3 []) 0 l.counts → InsertChecked l k v o
  by2 : shape l ≡ 0 → offered l.params.null v ≡ 0 → zero_hash (l.params.hash_of k) ≡ 2
      → o ≡ leave (refused 2 []) 0 l.counts
      → InsertChecked l k v o
  past : shape l ≡ 0 → offered l.params.null v ≡ 0 → zero_hash (l.params.hash_of k) ≡ 0
      → o ≡ insert_stored l.params.S l.params.null l.cells l.value l.counts (l.params.hash_of k) k v
      → InsertChecked l k v o

pub data RemoveChecked (l : Lent) (k : ℕ) (o : Outcome) : Type 0 where
  by1 : shape l ≡ 1 → o ≡ leave (refused 1 []) 0 l.counts → RemoveChecked l k o
  by2 : shape l ≡ 0 → zero_hash (l.params.hash_of k) ≡ 2 → o ≡ leave (refused 2 []) 0 l.counts → RemoveChecked l k o
  past : shape l ≡ 0 → zero_hash (l.params.hash_of k) ≡ 0
      → o ≡ remove_in l.params.S l.params.null l.cells l.value l.counts (l.params.hash_of k) k
      → RemoveChecked l k o

pub data FindChecked (l : Lent) (k : ℕ) (a : Answer) : Type 0 where
  by1 : shape l ≡ 1 → a ≡ record { said = refused 1 []; looked = 0 } → FindChecked l k a
  by2 : shape l ≡ 0 → zero_hash (l.params.hash_of k) ≡ 2 → a ≡ record { said = refused 2 []; looked = 0 } → FindChecked l k a
  past : shape l ≡ 0 → zero_hash (l.params.hash_of k) ≡ 0
      → a ≡ find_in l.params.S l.params.null l.cells l.value (l.params.hash_of k) k
      → FindChecked l k a
