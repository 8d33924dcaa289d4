-- An entry used at once, on any table: never Stale for its own case's action, and answered as the call with its key. Assumes nothing.
use mathlib.Core.Bool.{Bool, true, false, ◌&&◌}
use mathlib.Core.List.{[]}
use mathlib.Core.Logic.{◌≢◌, ◌⊎◌, inl, inr}
use mathlib.Core.Path.{◌≡◌, refl, sym, ap, subst, ◌∙◌}
use Prim.Native.Nat.{ℕ, ◌%◌, ◌≤◌, ◌<◌}
use native.Mathlib.Nat.{mod-lt}
use native.Mathlib.Omega.{arith}
use borrow.Author.Tests.{ne_eqb, lt-ltb}
use lib.Dec.{leb}
use lib.ListN.{length}
use Rattle.rules.specs.Cells.{Lent, shape, offered}
use Rattle.rules.specs.Walk.{met, walk}
use Rattle.rules.specs.Answers.{found, absent, removed, refused, store, Outcome, leave, settle}
use Rattle.rules.specs.Calls.{find, remove_in, remove, insert}
use Rattle.rules.specs.Entries.{Place, occupied, vacant, Entry, Making, made, entry_of, Action, reading, removing, inserting, use_shape, offers, uncounted, use_entry, get_by, replace_by, remove_by, insert_by}
use Rattle.laws.proofs.Stops.{met_holds}
use Rattle.sound.proofs.Walks.{holds_both}
use Rattle.sound.proofs.Keeping.{zero_passes}
use Rattle.entrylaws.specs.Uses.{HoldsLive, OtherCase, StaleWhen, lost, there, other_hash, other_case, Usable, Insertable}
use Rattle.entrylaws.specs.Made.{entry_at, Makable, MakeWay}
use Rattle.entrylaws.specs.Made as ways
use Rattle.entrylaws.proofs.Ways.{offers_says, usable_used, insertable_used, uncounted_settle}
use Rattle.entrylaws.proofs.Stale.{stale_exactly}
use Rattle.entrylaws.proofs.Making.{make_way, find_at_lem}

-- the entry that was made, by its case
data Is (l : Lent) (k : ℕ) (e : Entry) : Type 0 where
  is_occupied : Makable l k → (q : ℕ) → (walk l.params.S l.cells (l.params.hash_of k) k).stop ≡ met q → l.value (q % l.params.S) ≢ l.params.null
      → e ≡ entry_at l k (occupied (q % l.params.S))
      → Is l k e
  is_vacant : Makable l k → (find l k).said ≡ absent → e ≡ entry_at l k vacant → Is l k e

module _ (l : Lent) (k : ℕ) where
  made_is : (e : Entry) → entry_of l k ≡ made e → Is l k e
  made_is e x = go _ (make_way l k) x
    where
      go : (m : Making) → MakeWay l k m → m ≡ made e → Is l k e
      go m (ways.by1 s y) x = let z : ◌≡◌ {A = ℕ} 0 1 = cc in absurd (omega arith)
      go m (ways.by2 s h y) x = let z : ◌≡◌ {A = ℕ} 0 1 = cc in absurd (omega arith)
      go m (ways.endless p s y) x = let z : ◌≡◌ {A = ℕ} 0 1 = cc in absurd (omega arith)
      go m (ways.occupies p q s n y) x = is_occupied p q s n (cc)
      go m (ways.vacates p s y) x = is_vacant p s (cc)

  -- the cell met holds the key
  holds_met : Makable l k → (q : ℕ) → (walk l.params.S l.cells (l.params.hash_of k) k).stop ≡ met q → l.value (q % l.params.S) ≢ l.params.null
      → (x : Place) → HoldsLive l (entry_at l k x) (q % l.params.S)
  holds_met p q s n x =
      let h = holds_both l.cells (q % l.params.S) (l.params.hash_of k) k (met_holds l.params.S l.cells (l.params.hash_of k) k q s) in
      record { hash = h.0; key = h.1; taken = λ z. zero_passes (l.params.hash_of k) p.hash (sym h.0 ∙ z); live = n }

  made_fresh : (e : Entry) (a : Action) → Is l k e → (OtherCase e.place a → ⊥) → StaleWhen l e a → ⊥
  made_fresh e a (is_occupied p q s n x) = subst (λ (e : Entry). (OtherCase e.place a → ⊥) → StaleWhen l e a → ⊥) (sym x) go
    where
      go : (OtherCase (occupied (q % l.params.S)) a → ⊥) → StaleWhen l (entry_at l k (occupied (q % l.params.S))) a → ⊥
      go f (lost i y m) = let z : i ≡ q % l.params.S = cc in m (rw z (holds_met p q s n _))
      go f (there v y m) = let z : ◌≡◌ {A = ℕ} 0 1 = cc in omega arith
      go f (other_hash m) = m refl
      go f (other_case m) = f m
  made_fresh e a (is_vacant p s x) = subst (λ (e : Entry). (OtherCase e.place a → ⊥) → StaleWhen l e a → ⊥) (sym x) go
    where
      go : (OtherCase vacant a → ⊥) → StaleWhen l (entry_at l k vacant) a → ⊥
      go f (lost i y m) = let z : ◌≡◌ {A = ℕ} 0 1 = cc in omega arith
      go f (there v y m) = let z : ◌≡◌ {A = ℕ} 0 1 = cc in omega arith
      go f (other_hash m) = m refl
      go f (other_case m) = f m

  -- used at once for its own case's action, an entry is never Stale
  pub at_once_never_stale : (e : Entry) → entry_of l k ≡ made e → (a : Action) → (OtherCase e.place a → ⊥) → (use_entry l e a).said ≢ refused 7 []
  at_once_never_stale e x a f y = made_fresh e a (made_is e x) f ((stale_exactly l e a).0 y).1

  -- ---- past the checks

  and-true : (b : Bool) → b && true ≡ b
  and-true true = refl
  and-true false = refl

  shape_vacant : shape l ≡ 0 → use_shape l vacant ≡ 0
  shape_vacant s = rw (and-true (l.shaped && leb l.counts.live l.params.S)) s

  shape_occupied : (i : ℕ) → shape l ≡ 0 → i < l.params.S → use_shape l (occupied i) ≡ 0
  shape_occupied i s u = rw (lt-ltb i l.params.S u, and-true (l.shaped && leb l.counts.live l.params.S)) s

  module _ (some : shape l ≡ 0 → 1 ≤ l.params.S) where
    -- an Occupied entry at once is past every check, but 3 where null is offered
    pub made_usable : (e : Entry) (i : ℕ) → entry_of l k ≡ made e → e.place ≡ occupied i → (a : Action) → offers l.params.null a ≡ 0 → Usable l e a i
    made_usable e i x y a o = go (made_is e x)
      where
        go : Is l k e → Usable l e a i
        go (is_occupied p q s n z) =
            let at : q % l.params.S ≡ i = cc in
            subst (λ (e : Entry). Usable l e a i) (sym z) (subst (λ (j : ℕ). Usable l (entry_at l k (occupied (q % l.params.S))) a j) at
            (record {
              past = record { shape = shape_occupied _ p.shape (mod-lt q (some p.shape)); offer = o; hash = p.hash };
              at = refl;
              own = refl;
              there = holds_met p q s n _;
            }))
        go (is_vacant p s z) = let z : ◌≡◌ {A = ℕ} 0 1 = cc in absurd (omega arith)

  made_insertable : (a : Action) → Makable l k → (find l k).said ≡ absent → offers l.params.null a ≡ 0 → Insertable l (entry_at l k vacant) a
  made_insertable a p s o =
      record {
        past = record { shape = shape_vacant p.shape; offer = o; hash = p.hash };
        at = refl;
        own = refl;
        unfound = λ v y. let z : ◌≡◌ {A = ℕ} 0 1 = cc in omega arith;
      }

  -- ---- as the calls with the key

  pub removed_as : Makable l k → (q : ℕ) → (walk l.params.S l.cells (l.params.hash_of k) k).stop ≡ met q → l.value (q % l.params.S) ≢ l.params.null
      → remove l k ≡ settle l.params.S l.counts (length (walk l.params.S l.cells (l.params.hash_of k) k).seen) (removed (l.value (q % l.params.S))) (store (q % l.params.S) l.params.null)
  unfolding remove remove_in
  removed_as p q s n = rw (p.shape, p.hash, s, ne_eqb _ _ n)

  -- removing by an Occupied entry answers as remove, with the same change and record
  pub at_once_remove : (shape l ≡ 0 → 1 ≤ l.params.S) → (e : Entry) (i : ℕ) → entry_of l k ≡ made e → e.place ≡ occupied i
      → remove_by l e ≡ uncounted (remove l k)
  at_once_remove some e i x y = usable_used l e removing i (made_usable some e i x y removing refl) ∙ go (made_is e x)
    where
      go : Is l k e → settle l.params.S l.counts 0 (removed (l.value i)) (store i l.params.null) ≡ uncounted (remove l k)
      go (is_occupied p q s n z) =
          let at : i ≡ q % l.params.S = cc in
          rw at (sym (ap uncounted (removed_as p q s n) ∙ uncounted_settle l.params.S l.counts _ _ _))
      go (is_vacant p s z) = let z : ◌≡◌ {A = ℕ} 0 1 = cc in absurd (omega arith)

  insert_null : (v : ℕ) → Makable l k → offered l.params.null v ≡ 3 → insert l k v ≡ leave (refused 3 []) 0 l.counts
  unfolding insert
  insert_null v p o = rw (p.shape, o)

  vacant_null : (v : ℕ) → Makable l k → offered l.params.null v ≡ 3 → insert_by l (entry_at l k vacant) v ≡ leave (refused 3 []) 0 l.counts
  unfolding use_entry
  vacant_null v p o = rw (shape_vacant p.shape, o)

  inserted_as : (v : ℕ) → Makable l k → (find l k).said ≡ absent → offered l.params.null v ≡ 0 → insert_by l (entry_at l k vacant) v ≡ uncounted (insert l k v)
  unfolding insert
  inserted_as v p s o = insertable_used l (entry_at l k vacant) (inserting v) (made_insertable (inserting v) p s o) ∙ rw (p.shape, o, p.hash)

  -- inserting by a Vacant entry answers as insert, with the same change and record
  pub at_once_insert : (e : Entry) → entry_of l k ≡ made e → e.place ≡ vacant → (v : ℕ) → insert_by l e v ≡ uncounted (insert l k v)
  at_once_insert e x y v = go (made_is e x)
    where
      go : Is l k e → insert_by l e v ≡ uncounted (insert l k v)
      go (is_occupied p q s n z) = let z : ◌≡◌ {A = ℕ} 0 1 = cc in absurd (omega arith)
      go (is_vacant p s z) = subst (λ (e : Entry). insert_by l e v ≡ uncounted (insert l k v)) (sym z) (by (offers_says l.params.null (inserting v)))
        where
          by : (offered l.params.null v ≡ 3) ⊎ (offered l.params.null v ≡ 0) → insert_by l (entry_at l k vacant) v ≡ uncounted (insert l k v)
          by (inl o) = vacant_null v p o ∙ ap uncounted (sym (insert_null v p o))
          by (inr o) = inserted_as v p s o

  -- getting by an Occupied entry answers as find
  pub at_once_get : (shape l ≡ 0 → 1 ≤ l.params.S) → (e : Entry) (i : ℕ) → entry_of l k ≡ made e → e.place ≡ occupied i
      → (get_by l e).said ≡ (find l k).said
  at_once_get some e i x y = ap (λ (o : Outcome). o.said) (usable_used l e reading i (made_usable some e i x y reading refl)) ∙ go (made_is e x)
    where
      go : Is l k e → found (l.value i) ≡ (find l k).said
      go (is_occupied p q s n z) =
          let at : i ≡ q % l.params.S = cc in
          rw at (sym (find_at_lem l k p (met q) s ∙ rw (ne_eqb _ _ n)))
      go (is_vacant p s z) = let z : ◌≡◌ {A = ℕ} 0 1 = cc in absurd (omega arith)

  -- ---- for replacing, which takes a sound table

  pub made_key : (e : Entry) → entry_of l k ≡ made e → e.key ≡ k
  made_key e x = go (made_is e x)
    where
      go : Is l k e → e.key ≡ k
      go (is_occupied p q s n z) = ap (λ (e : Entry). e.key) z
      go (is_vacant p s z) = ap (λ (e : Entry). e.key) z

  replace_null : (e : Entry) (v : ℕ) → use_shape l e.place ≡ 0 → offered l.params.null v ≡ 3 → replace_by l e v ≡ leave (refused 3 []) 0 l.counts
  unfolding use_entry
  replace_null e v s o = rw (s, o)

  -- null is refused as insert refuses it
  pub at_once_null : (shape l ≡ 0 → 1 ≤ l.params.S) → (e : Entry) (i : ℕ) → entry_of l k ≡ made e → e.place ≡ occupied i
      → (v : ℕ) → offered l.params.null v ≡ 3 → replace_by l e v ≡ uncounted (insert l k v)
  at_once_null some e i x y v o = go (made_is e x)
    where
      go : Is l k e → replace_by l e v ≡ uncounted (insert l k v)
      go (is_occupied p q s n z) =
          replace_null e v (made_usable some e i x y reading refl).past.shape o ∙ ap uncounted (sym (insert_null v p o))
      go (is_vacant p s z) = let z : ◌≡◌ {A = ℕ} 0 1 = cc in absurd (omega arith)
