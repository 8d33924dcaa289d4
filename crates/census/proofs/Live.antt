-- 01: "Over any calls from a fresh table, live equals the number of keys whose last successful insert has no later successful remove
-- and no later clearing; a move carries its source's keys to the new table." Assumes nothing.
use mathlib.Core.List.{List}
use mathlib.Core.Logic.{◌↔◌}
use mathlib.Core.Path.{◌≡◌, refl, ◌∙◌}
use Prim.Native.Nat.{ℕ, zero, suc}
use lib.ListN.{length}
use Rattle.sound.specs.State.{SoundTable}
use Rattle.sound.proofs.Keeping.{fresh_sound}
use Rattle.order.specs.Number.{Lists}
use Rattle.census.specs.History.{Stands}
use Rattle.census.specs.Steps.{LiveIn, Steps}
use Rattle.census.specs.Stores.{Store, alone, halved, table_in, live_of}
use Rattle.census.specs.Calls.{Calls, next, history, final}
use Rattle.census.specs.Starts.{FreshTable}
use Rattle.census.proofs.History.{standing, standing_lists}
use Rattle.census.proofs.Steps.{fresh_steps_sound, live_exactly, live_number}
use Rattle.census.proofs.Calls.{call_step}

-- the calls are steps by their history
pub calls_steps : (n : ℕ) (s : Store) → SoundTable (table_in s) → (cs : Calls n s) → Steps (table_in s) (history n s cs) (table_in (final n s cs))
calls_steps zero s t cs = refl
calls_steps (suc n) s t cs =
    let x = call_step s t cs.0 in
    (table_in (next s cs.0), x, calls_steps n (next s cs.0) x.sound cs.1)

counts_live : (s : Store) → live_of s ≡ (table_in s).counts.live
counts_live (alone m) = refl
counts_live (halved h) = refl

-- any calls from a fresh table
module _ (n : ℕ) (s : Store) (f : FreshTable s) (cs : Calls n s) where
  steps : Steps (table_in s) (history n s cs) (table_in (final n s cs))
  steps = calls_steps n s (fresh_sound (table_in s).params (table_in s).cells (table_in s).value (table_in s).counts f) cs

  -- the table is sound at the end
  pub calls_sound : SoundTable (table_in (final n s cs))
  calls_sound = fresh_steps_sound (history n s cs) (table_in s) (table_in (final n s cs)) f steps

  -- a key is live exactly if its last successful insert has no later successful remove and no later clearing
  pub calls_live_exactly : (k : ℕ) → LiveIn (table_in (final n s cs)) k ↔ Stands (history n s cs) k
  calls_live_exactly = live_exactly (history n s cs) (table_in s) (table_in (final n s cs)) f steps

  -- live equals the number of these keys: the length of every list that has exactly them, each once
  pub live_over_calls : (ks : List ℕ) → Lists (Stands (history n s cs)) ks → live_of (final n s cs) ≡ length ks
  live_over_calls ks m = counts_live (final n s cs) ∙ live_number (history n s cs) (table_in s) (table_in (final n s cs)) f steps ks m

  -- there is such a list
  pub keys_over_calls : (ks : List ℕ) × Lists (Stands (history n s cs)) ks
  keys_over_calls = (standing (history n s cs), standing_lists (history n s cs))
