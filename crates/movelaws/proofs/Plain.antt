-- The plain move: how it ends, and what it makes of its destination. The source is in no outcome: it stays. Assumes nothing.
use mathlib.Core.Bool.{Bool, true, false, cond}
use mathlib.Core.List.{List, []}
use mathlib.Core.Logic.{◌≢◌, ◌⊎◌, inl, inr}
use mathlib.Core.Path.{◌≡◌, refl, sym, ap, ◌∙◌}
use Prim.Native.Nat.{ℕ}
use native.Mathlib.Omega.{arith}
use Rattle.rules.specs.Sizes.{is_size}
use Rattle.rules.specs.Cells.{Counts, Lent, shape}
use Rattle.rules.specs.Calls.{find}
use Rattle.rules.specs.Moves.{Held, stays, cleared, all, stop, Moved, move_all, MoveOutcome, move_end, move}
use Rattle.rules.specs.Sound.{Fresh}
use Rattle.laws.proofs.Ways.{shape_says}
use Rattle.sound.specs.State.{SoundTable, Sized, state_of}
use Rattle.sound.proofs.ByKey.{sound_shape}
use Rattle.movelaws.specs.Carried.{IsClear}
use Rattle.movelaws.specs.Movable.{at_size, state_moved}
use Rattle.movelaws.specs.Plain.{held_of, held_become, lent_moved}
use Rattle.movelaws.proofs.Carrying.{clear_fresh}
use Rattle.movelaws.proofs.Unbroken.{sound_movable, move_never_5}
use Rattle.movelaws.proofs.Sound.{moved_counts, moved_sound, moved_state}
use Rattle.movelaws.proofs.Finding.{find_alike}
use Rattle.movelaws.proofs.Stops.{StopsBy, no_stop, by4, by5, move_stops}

-- ---- the ways of a plain move

-- its cells
abbrev pub moves_all : Lent → (T : ℕ) → (clear : Held) → Moved
moves_all l T clear = move_all l.params.null l.params.S (held_of l) l.counts T clear

-- check 1 of both
abbrev pub check1 : Lent → (shaped : Bool) → ℕ
check1 l shaped = cond shaped (shape l) 1

pub data MoveWay (l : Lent) (shaped : Bool) (T : ℕ) (clear : Held) (o : MoveOutcome) : Type 0 where
  refused : check1 l shaped ≡ 1 → o ≡ record { ended = stop 1 []; to = stays [] } → MoveWay l shaped T clear o
  went : check1 l shaped ≡ 0 → (c : Counts) → (moves_all l T clear).ended ≡ all c
      → o ≡ record { ended = all c; to = cleared (moves_all l T clear).fills }
      → MoveWay l shaped T clear o
  full : check1 l shaped ≡ 0 → (x : List ℕ) → (moves_all l T clear).ended ≡ stop 4 x → o ≡ record { ended = stop 4 x; to = cleared [] } → MoveWay l shaped T clear o
  broken : check1 l shaped ≡ 0 → (moves_all l T clear).ended ≡ stop 5 [] → o ≡ record { ended = stop 5 []; to = cleared [] } → MoveWay l shaped T clear o

check1_says : (l : Lent) (shaped : Bool) → (check1 l shaped ≡ 0) ⊎ (check1 l shaped ≡ 1)
check1_says l true = shape_says l
check1_says l false = inr refl

-- check 1 of both passes check 1 of each
check1_passes : (l : Lent) (shaped : Bool) → check1 l shaped ≡ 0 → (shape l ≡ 0) × (shaped ≡ true)
check1_passes l true e = (e, refl)
check1_passes l false e = absurd (omega arith)

module _ (l : Lent) (shaped : Bool) (T : ℕ) (clear : Held) where
  -- a plain move is refused under 1, moves all, is Full or is Broken: no other refusal
  pub move_way : MoveWay l shaped T clear (move l shaped T clear)
  unfolding move
  move_way = go (check1_says l shaped)
    where
      m : Moved
      m = moves_all l T clear

      by : check1 l shaped ≡ 0 → StopsBy m.ended → MoveWay l shaped T clear (move_end m m.ended)
      by a (no_stop c e) = rw e (went a c e refl)
      by a (by4 x e) = rw e (full a x e refl)
      by a (by5 e) = rw e (broken a e refl)

      go : (check1 l shaped ≡ 0) ⊎ (check1 l shaped ≡ 1) → MoveWay l shaped T clear (move l shaped T clear)
      go (inl a) = rw a (by a (move_stops l.params.null l.params.S (held_of l) l.counts T clear))
      go (inr a) = rw a (refused a refl)

  -- ---- one that ends with all gone over: check 1 of both passed, and the destination was cleared and filled

  pub record MoveDone (c : Counts) : Type 0 where
    pub shaped_source : shape l ≡ 0
    pub is_shaped_lem : shaped ≡ true
    pub cells : (moves_all l T clear).ended ≡ all c
    pub to : (move l shaped T clear).to ≡ cleared (moves_all l T clear).fills

  pub move_done : (c : Counts) → (move l shaped T clear).ended ≡ all c → MoveDone c
  move_done c e = go _ move_way refl e
    where
      go : (o : MoveOutcome) → MoveWay l shaped T clear o → o ≡ move l shaped T clear → o.ended ≡ all c → MoveDone c
      go o (refused a q) x f = let n : ◌≡◌ {A = ℕ} 0 1 = cc in absurd (omega arith)
      go o (went a d m q) x f =
          let y : d ≡ c = cc in
          let p = check1_passes l shaped a in
          record { shaped_source = p.0; is_shaped_lem = p.1; cells = rw (← y) m; to = ap (λ (o : MoveOutcome). o.to) (sym x ∙ q) }
      go o (full a y m q) x f = let n : ◌≡◌ {A = ℕ} 0 1 = cc in absurd (omega arith)
      go o (broken a m q) x f = let n : ◌≡◌ {A = ℕ} 0 1 = cc in absurd (omega arith)

  -- ---- a refused one

  -- 1 leaves all
  pub refused_stays : (x : List ℕ) → (move l shaped T clear).ended ≡ stop 1 x → (move l shaped T clear).to ≡ stays []
  refused_stays x e = go _ move_way e
    where
      go : (o : MoveOutcome) → MoveWay l shaped T clear o → o.ended ≡ stop 1 x → o.to ≡ stays []
      go o (refused a q) f = rw q
      go o (went a c m q) f = let n : ◌≡◌ {A = ℕ} 0 1 = cc in absurd (omega arith)
      go o (full a y m q) f = let n : ◌≡◌ {A = ℕ} 4 1 = cc in absurd (omega arith)
      go o (broken a m q) f = let n : ◌≡◌ {A = ℕ} 5 1 = cc in absurd (omega arith)

  -- Full clears the destination, so does Broken, and there is no other stop
  pub stopped_clears : (n : ℕ) (x : List ℕ) → (move l shaped T clear).ended ≡ stop n x → n ≢ 1 → (move l shaped T clear).to ≡ cleared []
  stopped_clears n x e d = go _ move_way e
    where
      go : (o : MoveOutcome) → MoveWay l shaped T clear o → o.ended ≡ stop n x → o.to ≡ cleared []
      go o (refused a q) f = let y : n ≡ 1 = cc in absurd (d y)
      go o (went a c m q) f = let y : ◌≡◌ {A = ℕ} 0 1 = cc in absurd (omega arith)
      go o (full a y m q) f = rw q
      go o (broken a m q) f = rw q

  -- so that it is a fresh table afterwards
  pub stopped_fresh : (n : ℕ) (x : List ℕ) → (move l shaped T clear).ended ≡ stop n x → n ≢ 1 → IsClear l.params.null T clear → (old : Held)
      → Fresh (at_size l.params T) (held_become clear (move l shaped T clear).to old).cells (held_become clear (move l shaped T clear).to old).value (record { live = 0 })
  stopped_fresh n x e d empty old = rw (stopped_clears n x e d) (clear_fresh (at_size l.params T) clear empty)

  module _ (size : shaped ≡ true → is_size T ≡ true) (empty : shaped ≡ true → IsClear l.params.null T clear) (s : SoundTable l) where
    -- a move of a sound table is never Broken
    pub plain_never_5 : (x : List ℕ) → (move l shaped T clear).ended ≢ stop 5 x
    plain_never_5 x e = go _ move_way e
      where
        go : (o : MoveOutcome) → MoveWay l shaped T clear o → o.ended ≢ stop 5 x
        go o (refused a q) f = let n : ◌≡◌ {A = ℕ} 1 5 = cc in omega arith
        go o (went a c m q) f = let n : ◌≡◌ {A = ℕ} 0 1 = cc in omega arith
        go o (full a y m q) f = let n : ◌≡◌ {A = ℕ} 4 5 = cc in omega arith
        go o (broken a m q) f =
            let y = (check1_passes l shaped a).1 in
            move_never_5 l.params (held_of l) l.counts (sound_movable l.params (held_of l) l.counts s) T clear (size y) (empty y) [] m

    -- ---- one that succeeds

    module _ (c : Counts) (e : (move l shaped T clear).ended ≡ all c) (old : Held) where
      -- what the destination holds then
      abbrev dest : Held
      dest = held_become clear (move l shaped T clear).to old

      done : MoveDone c
      done = move_done c e

      -- it gives a record of the same live
      pub plain_counts : c ≡ l.counts
      plain_counts = moved_counts l.params (held_of l) l.counts s T clear (size done.is_shaped_lem) (empty done.is_shaped_lem) c done.cells

      -- the new table is sound
      pub plain_sound : SoundTable (lent_moved l T (held_become clear (move l shaped T clear).to old) c)
      plain_sound =
          rw done.to (moved_sound l.params (held_of l) l.counts s T clear (size done.is_shaped_lem) (empty done.is_shaped_lem) c done.cells)

      -- with the same keys and values and no removed cell
      pub plain_state : (k : ℕ) → state_of (lent_moved l T (held_become clear (move l shaped T clear).to old) c) k ≡ state_moved (state_of l k)
      plain_state k =
          rw done.to (moved_state l.params (held_of l) l.counts s T clear (size done.is_shaped_lem) (empty done.is_shaped_lem) c done.cells k)

      -- it passes check 1
      pub plain_shape : shape (lent_moved l T (held_become clear (move l shaped T clear).to old) c) ≡ 0
      plain_shape = sound_shape (lent_moved l T (held_become clear (move l shaped T clear).to old) c) plain_sound refl

      -- and a move carries its source's keys to the new table: every find says what it says in the source
      pub plain_find : Sized l → (k : ℕ) → (find (lent_moved l T (held_become clear (move l shaped T clear).to old) c) k).said ≡ (find l k).said
      plain_find sized k =
          find_alike l (lent_moved l T dest c) sized (λ x. size done.is_shaped_lem) s plain_sound done.shaped_source plain_shape refl k (plain_state k)
