-- Sources whose move is never Broken, how such a move ends, when it is never Full, and what a move makes of a key's state.
use Rattle.std.specs.Prelude.{[], ◌∷◌, ◌≡◌, ℕ, ◌+◌, ◌≤◌, ◌<◌}
use Rattle.rules.specs.Sizes.{window}
use Rattle.rules.specs.Cells.{Params, Counts}
use Rattle.rules.specs.Moves.{Held, Ended, all, stop}
use Rattle.rules.specs.Sound.{LiveCounts}
use Rattle.sound.specs.State.{State, no_cell, removed_cell, live_cell}
use Rattle.movelaws.specs.Carried.{LiveAt}

-- a table of another size, with the same null and hasher
abbrev pub at_size : Params → ℕ → Params
at_size p T = record { S = T; null = p.null; hash_of = p.hash_of }

-- a table of p.S cells: those that aren't taken have the value null, pairs (hash, key) of live cells differ, and live counts the
-- live cells
pub record Movable (p : Params) (t : Held) (c : Counts) : Type 0 where
  pub empty_null : (i : ℕ) → i < p.S → t.cells.hash i ≡ 0 → t.value i ≡ p.null
  pub pairs_differ : (i j : ℕ) → i < p.S → j < p.S → LiveAt p.null t i → LiveAt p.null t j
      → t.cells.hash i ≡ t.cells.hash j → t.cells.key i ≡ t.cells.key j
      → i ≡ j
  pub live_counts : LiveCounts p t.cells t.value c

-- all went over, or Full with one position
pub data Unbroken (e : Ended) : Type 0 where
  went : (c : Counts) → e ≡ all c → Unbroken e
  full : (q : ℕ) → e ≡ stop 4 (q ∷ []) → Unbroken e

-- so few cells that a table of T has room for them whatever their hashes: a tail and its window. These are 129, or T up to 128.
abbrev pub Roomy : (T n : ℕ) → Type 0
Roomy T n = n ≤ window T + 1

-- a live key goes over with its value; a removed one has no cell in the new table
abbrev pub state_moved : State → State
state_moved no_cell = no_cell
state_moved removed_cell = no_cell
state_moved (live_cell v) = live_cell v
