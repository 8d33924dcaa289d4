-- Steps of a sound table: what an event makes of the keys that are live.
use Rattle.std.specs.Prelude.{List, [], ◌∷◌, ◌≢◌, ◌⊎◌, ◌↔◌, ◌≡◌, ℕ}
use Rattle.rules.specs.Cells.{Lent}
use Rattle.sound.specs.State.{state_of, SoundTable, IsLive}
use Rattle.census.specs.History.{Event, put, drop, wipe, still}

-- the key is live in the table
abbrev pub LiveIn : Lent → ℕ → Type 0
LiveIn l k = IsLive (state_of l k)

-- a key is live after an event, by whether it was before: one that is put is, one that is dropped is not, after a clearing none is,
-- and every other is as it was
abbrev pub LiveAfter : Event → ℕ → (was : Type 0) → Type 0
LiveAfter (put j) k was = (k ≡ j) ⊎ was
LiveAfter (drop j) k was = (k ≢ j) × was
LiveAfter wipe k was = ⊥
LiveAfter still k was = was

-- from one table to the next, which is sound
pub record Step (l : Lent) (e : Event) (n : Lent) : Type 0 where
  pub sound : SoundTable n
  pub keys : (k : ℕ) → LiveIn n k ↔ LiveAfter e k (LiveIn l k)

-- one after the other
abbrev pub Steps : Lent → List Event → Lent → Type 0
Steps l [] n = l ≡ n
Steps l (e ∷ es) n = (m : Lent) × Step l e m × Steps m es n
