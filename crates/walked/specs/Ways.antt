-- The ways in which a step and a setting can end, one by one.
use Rattle.std.specs.Prelude.{true, false, [], ◌≢◌, ◌≡◌, ℕ, ◌+◌, ◌≤◌, ◌<◌, max}
use Rattle.rules.specs.Cells.{Lent, is_live, shape}
use Rattle.rules.specs.Answers.{absent, replaced, refused, store, Outcome, leave}
use Rattle.rules.specs.Cursor.{next, end, refusal, Step}

abbrev pub Live : Lent → ℕ → Type 0
Live l i = is_live l.params l.cells l.value i ≡ true

abbrev pub NotLive : Lent → ℕ → Type 0
NotLive l i = is_live l.params l.cells l.value i ≡ false

-- i is the least live index not below the position
pub record Least (l : Lent) (position i : ℕ) : Type 0 where
  pub below : i < l.params.S
  pub from : position ≤ i
  pub live : Live l i
  pub least : (j : ℕ) → position ≤ j → j < i → NotLive l j

-- no cell from the position on is live
abbrev pub NoneFrom : Lent → ℕ → Type 0
NoneFrom l position = (j : ℕ) → position ≤ j → j < l.params.S → NotLive l j

-- the cell i is handed back: it is the least live index not below the cursor, with its key and value
pub record Hands (l : Lent) (position i k v : ℕ) : Type 0 where
  pub passed : shape l ≡ 0
  pub least : Least l position i
  pub key : k ≡ l.cells.key i
  pub value : v ≡ l.value i

-- a step: refused by 1, a cell, or the end
pub data StepWay (l : Lent) (position : ℕ) (s : Step) : Type 0 where
  by1 : shape l ≡ 1 → s ≡ record { said = refusal 1; position = position } → StepWay l position s
  yields : shape l ≡ 0 → (i : ℕ) → Least l position i → s ≡ record { said = next i (l.cells.key i) (l.value i); position = i + 1 } → StepWay l position s
  ends : shape l ≡ 0 → NoneFrom l position → s ≡ record { said = end; position = max position l.params.S } → StepWay l position s

-- the checks let a setting past, and its cell is live with the old value
pub record Sets (l : Lent) (i v old : ℕ) : Type 0 where
  pub passed : shape l ≡ 0
  pub below : i < l.params.S
  pub value : v ≢ l.params.null
  pub live : Live l i
  pub was : old ≡ l.value i

-- a setting: refused by 1 (the shape, then the index) or by 3, Absent, or Replaced
pub data SetWay (l : Lent) (i v : ℕ) (o : Outcome) : Type 0 where
  by1 : shape l ≡ 1 → o ≡ leave (refused 1 []) 0 l.counts → SetWay l i v o
  by1_index : shape l ≡ 0 → l.params.S ≤ i → o ≡ leave (refused 1 []) 0 l.counts → SetWay l i v o
  by3 : shape l ≡ 0 → i < l.params.S → v ≡ l.params.null → o ≡ leave (refused 3 []) 0 l.counts → SetWay l i v o
  lacks : shape l ≡ 0 → i < l.params.S → v ≢ l.params.null → NotLive l i → o ≡ leave absent 0 l.counts → SetWay l i v o
  sets : shape l ≡ 0 → i < l.params.S → v ≢ l.params.null → Live l i
      → o ≡ record { said = replaced (l.value i); looked = 0; counts = l.counts; change = store i v }
      → SetWay l i v o
