-- When an insert is Full: by the cells and the positions of its walk.
use Rattle.std.specs.Prelude.{false, ◌≢◌, ◌≡◌, ℕ, ◌%◌, ◌≤◌, ◌<◌}
use mathlib.Core.List.{List, [], ◌∷◌, Memᴰ}
use Rattle.rules.specs.Sizes.{window}
use Rattle.rules.specs.Cells.{Cells, holds}
use Rattle.rules.specs.Walk.{tail, walk, on}
use Rattle.rules.specs.Answers.{Said, refused}

-- no position of a list has a cell with this hash and key
abbrev pub Unmet : (S : ℕ) → Cells → (h k : ℕ) → List ℕ → Type 0
Unmet S cs h k seen = (q : ℕ) → Memᴰ q seen → holds cs (q % S) h k ≡ false

-- every cell of the probe window past the position t is taken
abbrev pub WindowTaken : (S : ℕ) → Cells → ℕ → Type 0
WindowTaken S cs t = (d : ℕ) → 0 < d → d ≤ window S → cs.hash (on t d % S) ≢ 0

pub record FullWhen (S : ℕ) (cs : Cells) (h k : ℕ) : Type 0 where
  -- the home is taken
  pub home : cs.hash (h % S) ≢ 0
  -- the key is not met at its home or on its chain
  pub unmet : Unmet S cs h k (walk S cs h k).seen
  -- the chain ends at a tail
  pub last : ℕ
  pub ends : (walk S cs h k).stop ≡ tail last
  -- every cell of the probe window is taken
  pub window_taken : WindowTaken S cs last

-- Full, with what it carries
pub record IsFull (s : Said) : Type 0 where
  pub carried : List ℕ
  pub says : s ≡ refused 4 carried

-- 1, 2, 3 and 5 don't refuse
pub record Unrefused (s : Said) : Type 0 where
  pub shape : s ≢ refused 1 []
  pub hash_not_zero : s ≢ refused 2 []
  pub null : s ≢ refused 3 []
  pub broken : s ≢ refused 5 []

-- the last position of a list that begins after p
abbrev pub last_from : ℕ → List ℕ → ℕ
last_from p [] = p
last_from p (q ∷ l) = last_from q l

-- the same by the positions alone: the probe starts at the last that the walk looked at
pub record FullAfter (S : ℕ) (cs : Cells) (h k : ℕ) : Type 0 where
  pub home : cs.hash (h % S) ≢ 0
  pub unmet : Unmet S cs h k (walk S cs h k).seen
  pub window_taken : WindowTaken S cs (last_from h (walk S cs h k).seen)
