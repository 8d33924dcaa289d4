-- A use of an entry on a sound table: sound after it, never Broken, its key's state alone touched. Assumes nothing.
use mathlib.Core.List.{List, []}
use mathlib.Core.Logic.{◌≢◌, ◌⊎◌, inl, inr}
use mathlib.Core.Path.{◌≡◌, refl, sym, ap, subst, ◌∙◌}
use Prim.Native.Nat.{ℕ, ◌≤◌}
use native.Mathlib.Omega.{arith}
use Rattle.rules.specs.Cells.{Lent, shape, offered}
use Rattle.rules.specs.Answers.{refused, Outcome}
use Rattle.rules.specs.Calls.{insert}
use Rattle.rules.specs.Entries.{occupied, Entry, made, entry_of, Action, reading, keeping, replacing, inserting, uncounted, use_entry, replace_by, offers}
use Rattle.steps.proofs.Sizes.{size_least}
use Rattle.laws.specs.Full.{IsFull}
use Rattle.cells.specs.declared.Table.{Table}
use Rattle.cells.specs.Layout.{lent, done_by, left_by}
use Rattle.sound.specs.State.{State, live_cell, state_of, after, SoundTable, Sized, finds, inserts}
use Rattle.sound.specs.Slices.{lent_by}
use Rattle.sound.proofs.Keeping.{insert_keeps_sound, remove_keeps_sound}
use Rattle.sound.proofs.ByKey.{insert_never_broken, remove_never_broken, insert_says_lem, insert_own, insert_others, remove_says_lem, remove_own, remove_others}
use Rattle.sound.proofs.Slices.{lent_sized, lent_after_insert, lent_after_remove}
use Rattle.entrylaws.specs.Uses.{Reads}
use Rattle.entrylaws.specs.Sound.{Puts, UseAs, checked, as_find, as_insert, as_remove, Unrefused, says_by, leaves_by}
use Rattle.entrylaws.proofs.Ways.{offers_says}
use Rattle.entrylaws.proofs.AtOnce.{made_usable, made_key, at_once_null}
use Rattle.entrylaws.proofs.OnSound.{use_shaped, sound_replaces, sound_use}

module _ (l : Lent) (sized : Sized l) (s : SoundTable l) (e : Entry) (a : Action) where
  -- a use keeps a table sound, by every answer, refusals too
  pub use_keeps_sound : SoundTable (after l (use_entry l e a))
  use_keeps_sound = go _ (sound_use l sized s e a)
    where
      go : (o : Outcome) → UseAs l e a o → SoundTable (after l o)
      go o (checked n m q) = rw q s
      go o (as_find v r x q) = rw q s
      go o (as_insert v p x q) = rw q (insert_keeps_sound l sized s e.key v)
      go o (as_remove v p x y q) = rw q (remove_keeps_sound l sized s e.key)

  -- it is never Broken
  pub use_never_broken : (x : List ℕ) → (use_entry l e a).said ≢ refused 5 x
  use_never_broken x = go _ (sound_use l sized s e a)
    where
      go : (o : Outcome) → UseAs l e a o → o.said ≢ refused 5 x
      go o (checked n m q) y = let z : n ≡ 5 = cc in m z
      go o (as_find v r t q) y = let z : ◌≡◌ {A = ℕ} 0 1 = cc in omega arith
      go o (as_insert v p t q) y = insert_never_broken l sized s e.key v x (sym (ap (λ (o : Outcome). o.said) q) ∙ y)
      go o (as_remove v p t w q) y = remove_never_broken l sized s e.key x (sym (ap (λ (o : Outcome). o.said) q) ∙ y)

  -- every other key's state stays, by every answer
  pub use_others : (k : ℕ) → k ≢ e.key → state_of (after l (use_entry l e a)) k ≡ state_of l k
  use_others k n = go _ (sound_use l sized s e a)
    where
      go : (o : Outcome) → UseAs l e a o → state_of (after l o) k ≡ state_of l k
      go o (checked m x q) = rw q
      go o (as_find v r x q) = rw q
      go o (as_insert v p x q) = rw q (insert_others l sized s e.key v k n)
      go o (as_remove v p x y q) = rw q (remove_others l sized s e.key k n)

  -- ---- a use that is not refused

  not_full : (o : Outcome) → Unrefused o.said → IsFull o.said → ⊥
  not_full o u f = u 4 f.carried f.says

  reads_says : (b : Action) (t : State) → Reads b → says_by b t ≡ finds t
  reads_says reading t r = refl
  reads_says (keeping v) t r = refl
  reads_says Rattle.rules.specs.Entries.removing t r = elim r [ ]
  reads_says (replacing _) t r = elim r [ ]
  reads_says (inserting _) t r = elim r [ ]

  reads_leaves : (b : Action) (t : State) → Reads b → leaves_by b t ≡ t
  reads_leaves reading t r = refl
  reads_leaves (keeping v) t r = refl
  reads_leaves Rattle.rules.specs.Entries.removing t r = elim r [ ]
  reads_leaves (replacing _) t r = elim r [ ]
  reads_leaves (inserting _) t r = elim r [ ]

  puts_says : (b : Action) (v : ℕ) (t : State) → Puts b v → says_by b t ≡ inserts t
  puts_says (replacing x) v t p = refl
  puts_says (inserting x) v t p = refl
  puts_says reading v t p = elim p [ ]
  puts_says Rattle.rules.specs.Entries.removing v t p = elim p [ ]
  puts_says (keeping _) v t p = elim p [ ]

  puts_leaves : (b : Action) (v : ℕ) (t : State) → Puts b v → leaves_by b t ≡ live_cell v
  puts_leaves (replacing x) v t p = ap live_cell p
  puts_leaves (inserting x) v t p = ap live_cell p
  puts_leaves reading v t p = elim p [ ]
  puts_leaves Rattle.rules.specs.Entries.removing v t p = elim p [ ]
  puts_leaves (keeping _) v t p = elim p [ ]

  puts_offer : (b : Action) (v : ℕ) → Puts b v → offers l.params.null b ≡ offers l.params.null (inserting v)
  puts_offer (replacing x) v p = rw p
  puts_offer (inserting x) v p = rw p
  puts_offer reading v p = elim p [ ]
  puts_offer Rattle.rules.specs.Entries.removing v p = elim p [ ]
  puts_offer (keeping _) v p = elim p [ ]

  -- it says what its key's state calls for
  pub use_says : Unrefused (use_entry l e a).said → (use_entry l e a).said ≡ says_by a (state_of l e.key)
  use_says = go _ (sound_use l sized s e a)
    where
      go : (o : Outcome) → UseAs l e a o → Unrefused o.said → o.said ≡ says_by a (state_of l e.key)
      go o (checked n m q) u = absurd (u n [] (ap (λ (o : Outcome). o.said) q))
      go o (as_find v r x q) u = rw (q, reads_says a (state_of l e.key) r, x)
      go o (as_insert v p x q) u =
          let f = insert_says_lem l sized s e.key v (not_full (insert l e.key v) (subst (λ (o : Outcome). Unrefused o.said) q u)) in
          rw (q, puts_says a v (state_of l e.key) x) (rw (use_shaped l e.place p.shape, sym (puts_offer a v x) ∙ p.offer, p.hash) at f)
      go o (as_remove v p x y q) u = rw (q, x) (rw (use_shaped l e.place p.shape, p.hash) at (remove_says_lem l sized s e.key))

  -- and leaves its key so
  pub use_own : Unrefused (use_entry l e a).said → state_of (after l (use_entry l e a)) e.key ≡ leaves_by a (state_of l e.key)
  use_own = go _ (sound_use l sized s e a)
    where
      go : (o : Outcome) → UseAs l e a o → Unrefused o.said → state_of (after l o) e.key ≡ leaves_by a (state_of l e.key)
      go o (checked n m q) u = absurd (u n [] (ap (λ (o : Outcome). o.said) q))
      go o (as_find v r x q) u = rw (q, reads_leaves a (state_of l e.key) r)
      go o (as_insert v p x q) u =
          let f = insert_own l sized s e.key v (not_full (insert l e.key v) (subst (λ (o : Outcome). Unrefused o.said) q u)) in
          rw (q, puts_leaves a v (state_of l e.key) x) (rw (use_shaped l e.place p.shape, sym (puts_offer a v x) ∙ p.offer, p.hash) at f)
      go o (as_remove v p x y q) u = rw (q, x) (rw (use_shaped l e.place p.shape, p.hash, y) at (remove_own l sized s e.key))

-- replacing by an Occupied entry at once answers as insert, with the same change and record
pub at_once_replace : (l : Lent) → Sized l → SoundTable l → (k : ℕ) (e : Entry) (i : ℕ) → entry_of l k ≡ made e → e.place ≡ occupied i
    → (v : ℕ) → replace_by l e v ≡ uncounted (insert l k v)
at_once_replace l sized s k e i x y v = go (offers_says l.params.null (replacing v))
  where
    some : shape l ≡ 0 → 1 ≤ l.params.S
    some q = omega (arith, size_least l.params.S (sized q))

    go : (offered l.params.null v ≡ 3) ⊎ (offered l.params.null v ≡ 0) → replace_by l e v ≡ uncounted (insert l k v)
    go (inl o) = at_once_null l k some e i x y v o
    go (inr o) =
        let u = made_usable l k some e i x y (replacing v) o in
        subst (λ (q : ℕ). replace_by l e v ≡ uncounted (insert l q v)) (made_key l k e x) (sound_replaces l sized s e i v u)

-- ---- on the two slices and the record

module _ (ws ds : List ℕ) (t : Table) (s : SoundTable (lent ws ds t)) (e : Entry) (a : Action) where
  -- the slices and the record after a use, lent again, are the table after it
  pub lent_after_use : lent_by (left_by (use_entry (lent ws ds t) e a) t ws ds) ≡ after (lent ws ds t) (use_entry (lent ws ds t) e a)
  unfolding done_by
  lent_after_use = go _ (sound_use (lent ws ds t) (lent_sized ws ds t) s e a)
    where
      go : (o : Outcome) → UseAs (lent ws ds t) e a o → lent_by (left_by o t ws ds) ≡ after (lent ws ds t) o
      go o (checked n m q) = rw q
      go o (as_find v r x q) = rw q
      go o (as_insert v p x q) = rw q (lent_after_insert ws ds t e.key v)
      go o (as_remove v p x y q) = rw q (lent_after_remove ws ds t e.key)

  -- and sound
  pub lent_use_sound : SoundTable (lent_by (left_by (use_entry (lent ws ds t) e a) t ws ds))
  lent_use_sound = subst (λ (l : Lent). SoundTable l) (sym lent_after_use) (use_keeps_sound (lent ws ds t) (lent_sized ws ds t) s e a)
