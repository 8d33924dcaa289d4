-- Entries: a key with its hash and its place, made from a key and used at once or late. Checks run 1, 3, 2, 7, then the walk.
use Rattle.std.specs.Prelude.{Bool, true, false, cond, not, ◌&&◌, ◌||◌, [], ℕ, zero, suc, ◌%◌, eqb, leb, ltb}
use Rattle.rules.specs.Cells.{Cells, Lent, is_live, holds, shape, offered, zero_hash}
use Rattle.rules.specs.Walk.{Stop, met, tail, broken, walk}
use Rattle.rules.specs.Answers.{Said, found, absent, new, replaced, revived, removed, refused, Change, nothing, store, fill, Outcome, leave, unless, settle}
use Rattle.rules.specs.Calls.{find, insert_stored}

-- Occupied, with its cell, or Vacant
pub data Place : Type 0 where
  occupied : ℕ → Place
  vacant : Place

pub record Entry : Type 0 where
  pub key : ℕ
  pub hash : ℕ
  pub place : Place

-- ---- making an entry

-- the entry made, or a refusal by its number
pub data Making : Type 0 where
  made : Entry → Making
  refuses : ℕ → Making

abbrev pub unless_made : ℕ → Making → Making
unless_made zero m = m
unless_made (suc n) m = refuses (suc n)

-- met with a value: Occupied, with the cell met; met and removed, or at the tail: Vacant; broken: 5
abbrev pub make_at : (S null : ℕ) → (ℕ → ℕ) → (h k : ℕ) → Stop → Making
make_at S null value h k (met q) =
    made (record { key = k; hash = h; place = cond (eqb (value (q % S)) null) vacant (occupied (q % S)) })
make_at S null value h k (tail q) = made (record { key = k; hash = h; place = vacant })
make_at S null value h k broken = refuses 5

unfoldable pub make_in : (S null : ℕ) → Cells → (ℕ → ℕ) → (h k : ℕ) → Making
make_in S null cs value h k = make_at S null value h k (walk S cs h k).stop

-- checks 1 and 2; an entry offers no value and is not used yet
unfoldable pub entry_of : Lent → ℕ → Making
entry_of l k =
    let p = l.params in
    let h = p.hash_of k in
    unless_made (shape l) (unless_made (zero_hash h) (make_in p.S p.null l.cells l.value h k))

-- ---- using an entry

-- What an entry is used for. A Vacant one is inserted. The value of an Occupied one is read, kept where another is offered,
-- replaced, or removed.
pub data Action : Type 0 where
  reading : Action
  keeping : ℕ → Action
  replacing : ℕ → Action
  removing : Action
  inserting : ℕ → Action

-- 1: the shape, and the cell of an Occupied entry, whatever the entry is used for
abbrev pub below : ℕ → Place → Bool
below S (occupied i) = ltb i S
below S vacant = true

abbrev pub use_shape : Lent → Place → ℕ
use_shape l at = cond (l.shaped && leb l.counts.live l.params.S && below l.params.S at) 0 1

-- 3: the value that is offered
abbrev pub offers : (null : ℕ) → Action → ℕ
offers null reading = 0
offers null (keeping v) = offered null v
offers null (replacing v) = offered null v
offers null removing = 0
offers null (inserting v) = offered null v

abbrev pub is_found : Said → Bool
is_found (found v) = true
is_found absent = false
is_found new = false
is_found (replaced v) = false
is_found revived = false
is_found (removed v) = false
is_found (refused n l) = false

-- the cell of an Occupied entry no longer holds its hash and key live; the key of a Vacant one is Found
abbrev pub outdated : Lent → Entry → Place → Bool
outdated l e (occupied i) = not (holds l.cells i e.hash e.key && is_live l.params l.cells l.value i)
outdated l e vacant = is_found (find l e.key).said

-- 7: outdated, or the hash is not the key's. Used for the other case's action it is 7 too, below.
unfoldable pub stale : Lent → Entry → ℕ
stale l e = cond (outdated l e e.place || not (eqb e.hash (l.params.hash_of e.key))) 7 0

-- an answer without the count of cells looked at
abbrev pub uncounted : Outcome → Outcome
uncounted o = record { said = o.said; looked = 0; counts = o.counts; change = o.change }

-- an Occupied entry whose cell i holds the value old: at that cell, with no walk. To insert is the other case's action.
abbrev pub used_at : Lent → (i old : ℕ) → Action → Outcome
used_at l i old reading = leave (found old) 0 l.counts
used_at l i old (keeping v) = leave (found old) 0 l.counts
used_at l i old (replacing v) = settle l.params.S l.counts 0 (replaced old) (store i v)
used_at l i old removing = settle l.params.S l.counts 0 (removed old) (store i l.params.null)
used_at l i old (inserting v) = leave (refused 7 []) 0 l.counts

-- a Vacant entry: an insert at fixed size, whose own walk answers. The rest are the other case's actions.
abbrev pub used_vacant : Lent → Entry → Action → Outcome
used_vacant l e (inserting v) =
    uncounted (insert_stored l.params.S l.params.null l.cells l.value l.counts e.hash e.key v)
used_vacant l e reading = leave (refused 7 []) 0 l.counts
used_vacant l e (keeping v) = leave (refused 7 []) 0 l.counts
used_vacant l e (replacing v) = leave (refused 7 []) 0 l.counts
used_vacant l e removing = leave (refused 7 []) 0 l.counts

abbrev pub used : Lent → Entry → Place → Action → Outcome
used l e (occupied i) a = used_at l i (l.value i) a
used l e vacant a = used_vacant l e a

-- check 2 hashes the entry's key anew
unfoldable pub use_entry : Lent → Entry → Action → Outcome
use_entry l e a =
    let p = l.params in
    let c = l.counts in
    unless (use_shape l e.place) c
    (unless (offers p.null a) c
    (unless (zero_hash (p.hash_of e.key)) c
    (unless (stale l e) c (used l e e.place a))))

-- ---- the calls that use one

abbrev pub get_by : Lent → Entry → Outcome
get_by l e = use_entry l e reading

abbrev pub replace_by : Lent → Entry → ℕ → Outcome
replace_by l e v = use_entry l e (replacing v)

abbrev pub remove_by : Lent → Entry → Outcome
remove_by l e = use_entry l e removing

abbrev pub insert_by : Lent → Entry → ℕ → Outcome
insert_by l e v = use_entry l e (inserting v)

-- by the case: one action for an Occupied entry, one for a Vacant
abbrev pub on_case : Place → (a b : Action) → Action
on_case (occupied i) a b = a
on_case vacant a b = b

abbrev pub or_insert_by : Lent → Entry → ℕ → Outcome
or_insert_by l e v = use_entry l e (on_case e.place (keeping v) (inserting v))

abbrev pub insert_entry_by : Lent → Entry → ℕ → Outcome
insert_entry_by l e v = use_entry l e (on_case e.place (replacing v) (inserting v))

-- the entry handed back: Occupied with the cell that was changed; where nothing was, the entry as it was
abbrev pub entry_after : Entry → Change → Entry
entry_after e nothing = e
entry_after e (store i v) = record { key = e.key; hash = e.hash; place = occupied i }
entry_after e (fill i h k v l) = record { key = e.key; hash = e.hash; place = occupied i }
