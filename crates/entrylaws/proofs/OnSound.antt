-- On a sound table a use of an entry, late or not, is the call with its key; so it keeps the table sound and touches that key alone.
-- Assumes nothing.
use mathlib.Core.Bool.{Bool, true, false, cond, ◌&&◌}
use mathlib.Core.Logic.{◌≢◌}
use mathlib.Core.Path.{◌≡◌, refl, sym, ap, subst, ◌∙◌}
use Prim.Native.Nat.{ℕ, ◌%◌, ◌<◌}
use native.Mathlib.Omega.{arith}
use borrow.Author.Tests.{ltb-true}
use lib.Dec.{leb, ltb}
use lib.ListN.{length}
use Rattle.rules.specs.Cells.{Lent, holds, shape}
use Rattle.rules.specs.Walk.{walk}
use Rattle.rules.specs.Answers.{replaced, removed, store, settle}
use Rattle.rules.specs.Calls.{insert, insert_stored, remove}
use Rattle.rules.specs.Entries.{Place, occupied, Entry, Action, replacing, removing, inserting, below, use_shape, uncounted, use_entry, replace_by, remove_by}
use Rattle.steps.proofs.Branches.{settle_replaced, stored_met, met_live}
use Rattle.sound.specs.State.{live_cell, state_of, SoundTable, Sized}
use Rattle.sound.specs.Stops.{MetAt, Wraps}
use Rattle.sound.proofs.Positions.{size_wraps}
use Rattle.sound.proofs.Walks.{both_holds}
use Rattle.sound.proofs.Meeting.{sound_built, empty_home_lacks, built_met_exactly}
use Rattle.sound.proofs.States.{state_live, state_of_cell}
use Rattle.sound.proofs.Keeping.{zero_passes}
use Rattle.entrylaws.specs.Uses.{Past, Usable, UseWay}
use Rattle.entrylaws.specs.Uses as ways
use Rattle.entrylaws.specs.Sound.{Puts, UseAs, checked, as_find, as_insert, as_remove}
use Rattle.entrylaws.proofs.Ways.{use_way, usable_used, uncounted_settle}
use Rattle.entrylaws.proofs.AtOnce.{removed_as}

-- ---- what check 1 of a use shows

pub use_shaped : (l : Lent) (at : Place) → use_shape l at ≡ 0 → shape l ≡ 0
use_shaped l at e = go (l.shaped && leb l.counts.live l.params.S) (below l.params.S at) e
  where
    go : (x y : Bool) → cond {A = ℕ} (x && y) 0 1 ≡ 0 → cond {A = ℕ} x 0 1 ≡ 0
    go true y e = refl
    go false y e = e

pub use_below : (l : Lent) (i : ℕ) → use_shape l (occupied i) ≡ 0 → i < l.params.S
use_below l i e = go (l.shaped && leb l.counts.live l.params.S) (ltb i l.params.S) refl e
  where
    go : (x y : Bool) → ltb i l.params.S ≡ y → cond {A = ℕ} (x && y) 0 1 ≡ 0 → i < l.params.S
    go true true q e = ltb-true i l.params.S q
    go true false q e = absurd (omega arith)
    go false y q e = absurd (omega arith)

module _ (l : Lent) (sized : Sized l) (s : SoundTable l) (e : Entry) where
  abbrev k : ℕ
  k = e.key

  abbrev h : ℕ
  h = l.params.hash_of e.key

  module _ (a : Action) (i : ℕ) (u : Usable l e a i) where
    shaped : shape l ≡ 0
    shaped = use_shaped l e.place u.past.shape

    wraps : Wraps l.params.S
    wraps = size_wraps l.params.S (sized shaped)

    some : h ≢ 0
    some = zero_passes h u.past.hash

    inside : i < l.params.S
    inside = use_below l i (subst (λ (x : Place). use_shape l x ≡ 0) u.at u.past.shape)

    held : holds l.cells i h k ≡ true
    held = both_holds l.cells i h k (u.there.hash ∙ u.own) u.there.key

    -- the walk meets the entry's cell
    met_there : MetAt l.params.S (walk l.params.S l.cells h k).stop i
    met_there = (built_met_exactly l.params l.cells l.value (sound_built l.params l.cells l.value l.counts s) wraps h k some i inside).0 held

    -- so its home is taken
    home_taken : l.cells.hash (h % l.params.S) ≢ 0
    home_taken z =
        let f = empty_home_lacks l.params l.cells l.value (sound_built l.params l.cells l.value l.counts s) wraps h k some z i inside in
        let y : ◌≡◌ {A = ℕ} 0 1 = cc (f, held) in
        omega arith

    state_there : state_of l k ≡ live_cell (l.value i)
    state_there =
        state_of_cell l.params l.cells l.value l.counts s k i inside u.there.taken u.there.key ∙ state_live l.params.null (l.value i) u.there.live

  met_stored : (i v : ℕ) → l.cells.hash (h % l.params.S) ≢ 0 → MetAt l.params.S (walk l.params.S l.cells h k).stop i → l.value i ≢ l.params.null
      → insert_stored l.params.S l.params.null l.cells l.value l.counts h k v
      ≡ record { said = replaced (l.value i); looked = length (walk l.params.S l.cells h k).seen; counts = l.counts; change = store i v }
  met_stored i v t m n =
      stored_met l.params.S l.params.null l.cells l.value l.counts h k v (h % l.params.S) (l.cells.hash (h % l.params.S)) refl refl t
      (record { stop = refl; looked = refl }) m.position i m.stop (sym m.cell)
      ∙ met_live l.params.S l.params.null l.counts _ i (l.value i) v (l.value i) refl n

  past_insert : (a : Action) (v : ℕ) → Past l e a → Puts a v → insert l k v ≡ insert_stored l.params.S l.params.null l.cells l.value l.counts h k v
  unfolding insert
  past_insert (replacing v) w p q = rw (← q, use_shaped l e.place p.shape, p.offer, p.hash)
  past_insert (inserting v) w p q = rw (← q, use_shaped l e.place p.shape, p.offer, p.hash)
  past_insert removing w p q = elim q [ ]
  past_insert Rattle.rules.specs.Entries.reading w p q = elim q [ ]
  past_insert (Rattle.rules.specs.Entries.keeping _) w p q = elim q [ ]

  -- replacing by an Occupied entry is an insert with its key
  pub sound_replaces : (i v : ℕ) → Usable l e (replacing v) i → replace_by l e v ≡ uncounted (insert l e.key v)
  sound_replaces i v u =
      usable_used l e (replacing v) i u
      ∙ settle_replaced l.params.S l.counts 0 (store i v) (l.value i)
      ∙ sym (ap uncounted (past_insert (replacing v) v u.past refl ∙ met_stored i v (home_taken (replacing v) i u) (met_there (replacing v) i u) u.there.live))

  -- removing by one is a remove with its key
  pub sound_removes : (i : ℕ) → Usable l e removing i → remove_by l e ≡ uncounted (remove l e.key)
  sound_removes i u =
      let m = met_there removing i u in
      usable_used l e removing i u
      ∙ subst (λ (j : ℕ). settle l.params.S l.counts 0 (removed (l.value j)) (store j l.params.null) ≡ uncounted (remove l k)) m.cell
      (sym
      (ap uncounted (removed_as l k (record { shape = shaped removing i u; hash = u.past.hash }) m.position m.stop (λ z. u.there.live (ap l.value (sym m.cell) ∙ z)))
      ∙ uncounted_settle l.params.S l.counts _ _ _))

  -- every use is refused by a check, or reads, or is the insert or the remove with the entry's key
  pub sound_use : (a : Action) → UseAs l e a (use_entry l e a)
  sound_use a = go (use_way l e a)
    where
      go : UseWay l e a (use_entry l e a) → UseAs l e a (use_entry l e a)
      go (ways.by1 x q) = checked 1 (λ z. omega arith) q
      go (ways.by3 x f q) = checked 3 (λ z. omega arith) q
      go (ways.by2 x f y q) = checked 2 (λ z. omega arith) q
      go (ways.by7 p x q) = checked 7 (λ z. omega arith) q
      go (ways.reads i u r q) = as_find (l.value i) r (state_there a i u) q
      go (ways.replaces i v u r q) =
          as_insert v u.past (subst (λ (b : Action). Puts b v) (sym r) refl)
          (ap (use_entry l e) r ∙ sound_replaces i v (subst (λ (b : Action). Usable l e b i) r u))
      go (ways.removes i u r m q) = as_remove (l.value i) u.past r (state_there a i u) (ap (use_entry l e) r ∙ sound_removes i (subst (λ (b : Action). Usable l e b i) r u))
      go (ways.under i u r m q) = as_remove (l.value i) u.past r (state_there a i u) (ap (use_entry l e) r ∙ sound_removes i (subst (λ (b : Action). Usable l e b i) r u))
      go (ways.inserts v u r q) =
          let p = subst (λ (b : Action). Puts b v) (sym r) refl in
          as_insert v u.past p (q ∙ ap uncounted (sym (past_insert a v u.past p)))
