-- Calls on a table, one after the other, by the rules' outcomes, refused calls among them: what each leaves and what it did. Putting
-- a bucket back is left out, as 01 says.
use Rattle.std.specs.Prelude.{List, [], ◌∷◌, ℕ, zero, suc}
use Rattle.hashers.specs.declared.Hasher.{Hasher}
use Rattle.rules.specs.Calls as rule
use Rattle.rules.specs.Cursor.{set_value}
use Rattle.rules.specs.Entries.{Entry, Action, use_entry}
use Rattle.rules.specs.Growing as growing
use Rattle.hashmap.specs.Answers as cleared
use Rattle.hashmap.specs.Answers.{clear_rule}
use Rattle.halves.specs.Answers as halves
use Rattle.halves.specs.Answers.{clear_halves_rule, HalvesCleared}
use Rattle.census.specs.History.{Event, wipe, still}
use Rattle.census.specs.Events.{event_by}
use Rattle.census.specs.Stores.{TwoHalves, Store, alone, halved, lent_two, table_in, left, move_from, moved_to, memory_cleared, two_cleared, two_grown}

-- a call on a table, alone or in use in one of two halves, with any keys, values, entries and indices
pub data Call : Type 0 where
  -- find, the making of an entry and a step of the cursor change nothing
  find : (k : ℕ) → Call
  make : (k : ℕ) → Call
  step : (position : ℕ) → Call
  -- at fixed size
  insert : (k v : ℕ) → Call
  remove : (k : ℕ) → Call
  -- an entry used, at once or late: for get, insert, replace, remove, or_insert or insert_entry
  act : Entry → Action → Call
  set : (i v : ℕ) → Call
  -- a plain move into these two slices
  move : (ws ds : List ℕ) → Call

-- on a table that is alone in two slices
pub data AloneCall : Type 0 where
  on : Call → AloneCall
  clear : Hasher → AloneCall

-- on a table in two halves
pub data HalvedCall : Type 0 where
  on : Call → HalvedCall
  -- a fresh table of this size
  clear : (size : ℕ) → Hasher → HalvedCall
  -- the growing insert
  grow : (k v : ℕ) → HalvedCall

abbrev pub CallOn : Store → Type 0
CallOn (alone m) = AloneCall
CallOn (halved h) = HalvedCall

-- ---- what a call leaves

abbrev pub after_call : Store → Call → Store
after_call s (find k) = s
after_call s (make k) = s
after_call s (step position) = s
after_call s (insert k v) = left s (rule.insert (table_in s) k v)
after_call s (remove k) = left s (rule.remove (table_in s) k)
after_call s (act e a) = left s (use_entry (table_in s) e a)
after_call s (set i v) = left s (set_value (table_in s) i v)
after_call s (move ws ds) = moved_to s ws ds (move_from s ws ds) (move_from s ws ds).ended

abbrev pub clear_of : TwoHalves → (size : ℕ) → Hasher → HalvesCleared
clear_of h size hasher =
    clear_halves_rule h.slices.lower_words h.slices.lower_deltas h.slices.upper_words h.slices.upper_deltas size hasher

abbrev pub next : (s : Store) → CallOn s → Store
next (alone m) (on c) = after_call (alone m) c
next (alone m) (clear hasher) = alone (memory_cleared m (clear_rule m.words m.deltas hasher) (clear_rule m.words m.deltas hasher).said)
next (halved h) (on c) = after_call (halved h) c
next (halved h) (clear size hasher) = halved (two_cleared h (clear_of h size hasher) (clear_of h size hasher).said)
next (halved h) (grow k v) = halved (two_grown h (growing.grow (lent_two h) k v))

-- ---- what it did

abbrev pub event_on : Store → Call → Event
event_on s (find k) = still
event_on s (make k) = still
event_on s (step position) = still
event_on s (insert k v) = event_by k (rule.insert (table_in s) k v).said
event_on s (remove k) = event_by k (rule.remove (table_in s) k).said
-- an entry's insert and remove count as insert and remove of its key
event_on s (act e a) = event_by e.key (use_entry (table_in s) e a).said
-- setting a value changes no membership
event_on s (set i v) = still
-- a move carries its source's keys to the new table
event_on s (move ws ds) = still

abbrev pub clear_event : cleared.Clear → Event
clear_event (cleared.cleared t) = wipe
clear_event (cleared.refuses n) = still

abbrev pub clear_halves_event : halves.Clear → Event
clear_halves_event (halves.cleared g) = wipe
clear_halves_event (halves.refuses n) = still

abbrev pub event : (s : Store) → CallOn s → Event
event (alone m) (on c) = event_on (alone m) c
event (alone m) (clear hasher) = clear_event (clear_rule m.words m.deltas hasher).said
event (halved h) (on c) = event_on (halved h) c
event (halved h) (clear size hasher) = clear_halves_event (clear_of h size hasher).said
-- moves inside change no key; NoRoom after them is a refusal
event (halved h) (grow k v) = event_by k (growing.grow (lent_two h) k v).said

-- ---- one after the other

-- n calls, each on what the one before left
abbrev pub Calls : ℕ → Store → Type 0
Calls zero s = Unit {0}
Calls (suc n) s = (c : CallOn s) × Calls n (next s c)

-- the history that they make
abbrev pub history : (n : ℕ) (s : Store) → Calls n s → List Event
history zero s cs = []
history (suc n) s cs = event s cs.0 ∷ history n (next s cs.0) cs.1

-- the table at the end
abbrev pub final : (n : ℕ) (s : Store) → Calls n s → Store
final zero s cs = s
final (suc n) s cs = final n (next s cs.0) cs.1
