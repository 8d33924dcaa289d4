-- A plain move is a step from its source to its destination: all keys go over, whatever the sizes. A refused one leaves the source, and
-- makes its destination fresh under 4 and 5. Assumes nothing.
use mathlib.Core.Bool.{Bool, true, false}
use mathlib.Core.List.{List}
use mathlib.Core.Logic.{◌≢◌, ◌↔◌}
use mathlib.Core.Path.{◌≡◌, refl}
use Prim.Native.Nat.{ℕ}
use native.Mathlib.Omega.{arith}
use Rattle.rules.specs.Sizes.{is_size}
use Rattle.rules.specs.Cells.{Counts, Lent}
use Rattle.rules.specs.Moves.{Held, all, stop, MoveOutcome, move}
use Rattle.sound.specs.State.{state_of, SoundTable, IsLive}
use Rattle.movelaws.specs.Carried.{IsClear}
use Rattle.movelaws.specs.Movable.{state_moved}
use Rattle.movelaws.specs.Plain.{held_become, lent_moved}
use Rattle.movelaws.proofs.Plain.{check1, MoveWay, refused, went, full, broken, move_way, plain_sound, plain_state}
use Rattle.census.specs.History.{still}
use Rattle.census.specs.Steps.{LiveIn, Step}
use Rattle.census.proofs.Keys.{moved_live, same_step}

-- one that stops under another number than 1 has passed check 1 of both
pub stopped_shaped : (l : Lent) (shaped : Bool) (T : ℕ) (clear : Held) (n : ℕ) (x : List ℕ) → (move l shaped T clear).ended ≡ stop n x → n ≢ 1 → shaped ≡ true
stopped_shaped l shaped T clear n x e d = go _ (move_way l shaped T clear) e
  where
    passes : (b : Bool) → check1 l b ≡ 0 → b ≡ true
    passes true q = refl
    passes false q = absurd (omega arith)

    go : (o : MoveOutcome) → MoveWay l shaped T clear o → o.ended ≡ stop n x → shaped ≡ true
    go o (refused a q) f = let y : n ≡ 1 = cc in absurd (d y)
    go o (went a c m q) f = let y : ◌≡◌ {A = ℕ} 0 1 = cc in absurd (omega arith)
    go o (full a y m q) f = passes shaped a
    go o (broken a m q) f = passes shaped a

module _ (l : Lent) (shaped : Bool) (T : ℕ) (clear : Held) (size : shaped ≡ true → is_size T ≡ true) (empty : shaped ≡ true → IsClear l.params.null T clear)
    (s : SoundTable l) where
  -- a plain move that succeeds
  pub move_step : (c : Counts) → (move l shaped T clear).ended ≡ all c → (old : Held)
      → Step l still (lent_moved l T (held_become clear (move l shaped T clear).to old) c)
  move_step c e old =
      same_step l (lent_moved l T (held_become clear (move l shaped T clear).to old) c) (plain_sound l shaped T clear size empty s c e old) (λ q. alike q (moved_live (state_of l q)))
    where
      alike : (q : ℕ) → IsLive (state_moved (state_of l q)) ↔ IsLive (state_of l q)
          → LiveIn (lent_moved l T (held_become clear (move l shaped T clear).to old) c) q ↔ LiveIn l q
      alike q x = rw (plain_state l shaped T clear size empty s c e old q) x
