-- The event of a call, by its answer.
use Rattle.std.specs.Prelude.{ℕ}
use Rattle.rules.specs.Answers.{Said, found, absent, new, replaced, revived, removed, refused}
use Rattle.census.specs.History.{Event, put, drop, still}

-- of a call on the key k: New, Replaced and Revived are successful inserts, Removed is a successful remove
abbrev pub event_by : (k : ℕ) → Said → Event
event_by k new = put k
event_by k (replaced v) = put k
event_by k revived = put k
event_by k (removed v) = drop k
event_by k (found v) = still
event_by k absent = still
event_by k (refused n x) = still
