-- A table's history: what its calls did to its keys, the earliest first, and the keys that 01 counts.
use Rattle.std.specs.Prelude.{List, ◌≢◌, ◌≡◌, ℕ, ◌<◌}
use Rattle.std.proofs.Math.Option.{some}
use Rattle.std.proofs.Math.ListN.{get_elem?}

-- what a call did
pub data Event : Type 0 where
  -- a successful insert of this key: New, Replaced or Revived
  put : ℕ → Event
  -- a successful remove of this key
  drop : ℕ → Event
  -- a clearing
  wipe : Event
  -- anything else: a find, a setting, a move, Absent, a refusal
  still : Event

-- the key's last successful insert has no later successful remove and no later clearing
pub record Stands (es : List Event) (k : ℕ) : Type 0 where
  pub at : ℕ
  pub inserted : get_elem? es at ≡ some (put k)
  pub last : (j : ℕ) → at < j → get_elem? es j ≢ some (put k)
  pub no_remove : (j : ℕ) → at < j → get_elem? es j ≢ some (drop k)
  pub no_clearing : (j : ℕ) → at < j → get_elem? es j ≢ some wipe
