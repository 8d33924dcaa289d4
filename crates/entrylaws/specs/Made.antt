-- The ways in which the making of an entry can end, and how they agree with a find.
use Rattle.std.specs.Prelude.{◌≢◌, ◌≡◌, ℕ, ◌%◌}
use Rattle.rules.specs.Cells.{Lent, shape, zero_hash}
use Rattle.rules.specs.Walk.{met, broken, walk}
use Rattle.rules.specs.Answers.{Said, found, absent, new, replaced, revived, removed, refused}
use Rattle.rules.specs.Calls.{find}
use Rattle.rules.specs.Entries.{Place, occupied, vacant, Entry, Making, made, refuses}

-- the entry of a key at a place, with the key's hash
abbrev pub entry_at : Lent → ℕ → Place → Entry
entry_at l k at = record { key = k; hash = l.params.hash_of k; place = at }

-- checks 1 and 2 let the making past
pub record Makable (l : Lent) (k : ℕ) : Type 0 where
  pub shape : shape l ≡ 0
  pub hash : zero_hash (l.params.hash_of k) ≡ 0

pub data MakeWay (l : Lent) (k : ℕ) (m : Making) : Type 0 where
  by1 : shape l ≡ 1 → m ≡ refuses 1 → MakeWay l k m
  by2 : shape l ≡ 0 → zero_hash (l.params.hash_of k) ≡ 2 → m ≡ refuses 2 → MakeWay l k m
  -- the walk is broken
  endless : Makable l k → (walk l.params.S l.cells (l.params.hash_of k) k).stop ≡ broken → m ≡ refuses 5 → MakeWay l k m
  -- met, with a value
  occupies : Makable l k → (q : ℕ) → (walk l.params.S l.cells (l.params.hash_of k) k).stop ≡ met q → l.value (q % l.params.S) ≢ l.params.null
      → m ≡ made (entry_at l k (occupied (q % l.params.S)))
      → MakeWay l k m
  -- not met, or removed
  vacates : Makable l k → (find l k).said ≡ absent → m ≡ made (entry_at l k vacant) → MakeWay l k m

-- what is made where a find says so: Occupied, with a cell of that value, where it is Found; else Vacant; else the same refusal
abbrev pub MadeBy : Lent → ℕ → Said → Making → Type 0
MadeBy l k (found v) m = (i : ℕ) × (m ≡ made (entry_at l k (occupied i))) × (l.value i ≡ v)
MadeBy l k absent m = m ≡ made (entry_at l k vacant)
MadeBy l k (refused n x) m = m ≡ refuses n
MadeBy l k new m = ⊥
MadeBy l k (replaced v) m = ⊥
MadeBy l k revived m = ⊥
MadeBy l k (removed v) m = ⊥
