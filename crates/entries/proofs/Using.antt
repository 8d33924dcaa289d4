-- Each branch of the rules of entries, as the code takes it. Assumes nothing.
use Rattle.std.proofs.lemmas.Bool.{and_parts, and_right, or_right}
use Rattle.std.specs.Prelude.{Option, Some, None, Result, Ok, Err, IsErrAnd}
use mathlib.Core.Bool.{Bool, true, false, cond, not, ◌&&◌, ◌||◌}
use mathlib.Core.List.{List, []}
use mathlib.Core.Logic.{◌≢◌}
use mathlib.Core.Path.{◌≡◌, refl, sym, ap, ◌∙◌}
use Prim.Native.Nat.{ℕ, ◌+◌, ◌*◌, ◌≤◌, ◌<◌}
use borrow.Author.Tests.{eq-eqb, ne_eqb, eqb-true, ltb-true}
use lib.Dec.{eqb, leb}
use lib.ListN.{length}
use Rattle.hashers.specs.Keys.{hash_of}
use Rattle.rules.specs.Cells.{Lent, shape}
use Rattle.rules.specs.Answers.{refused, Outcome, leave, unless}
use Rattle.rules.specs.Entries.{Place, occupied, vacant, Entry, Action, below, use_shape, offers, outdated, stale, used_at, used_vacant, used, use_entry}
use Rattle.cells.specs.declared.Table.{Table}
use Rattle.cells.specs.Layout.{Shaped, null, is_shaped, size_in, lent, hash_in, value_in, holds_in}
use Rattle.cells.proofs.Shapes.{words_hold, passed, sized, unsized}
use Rattle.entries.specs.declared.looking.CellValue.{CellValue}
use Rattle.entries.specs.declared.looking.LookError.{LookError}
use Rattle.entries.specs.declared.looking.LookError.TheVariants.{ZeroHash, Stale}
use Rattle.entries.specs.Workers.{use_size, HeldAt, Unheld, other_hash, not_occupied, lost, gone, Looks, look_failed}

-- ---- the checks of a use

module _ (l : Lent) (at : Place) where
  pub use_fails : l.shaped && leb l.counts.live l.params.S && below l.params.S at ≡ false → use_shape l at ≡ 1
  use_fails e = rw e

  pub use_passes : l.shaped && leb l.counts.live l.params.S && below l.params.S at ≡ true → use_shape l at ≡ 0
  use_passes e = rw e

  -- check 1 of a use holds check 1 of the table
  pub use_shaped : use_shape l at ≡ 0 → shape l ≡ 0
  use_shaped e = go (l.shaped && leb l.counts.live l.params.S) (below l.params.S at) e
    where
      go : (x y : Bool) → cond {A = ℕ} (x && y) 0 1 ≡ 0 → cond {A = ℕ} x 0 1 ≡ 0
      go true y e = refl
      go false y e = e

module _ (l : Lent) (e : Entry) (a : Action) where
  pub use_shape_lem : use_shape l e.place ≡ 1 → use_entry l e a ≡ leave (refused 1 []) 0 l.counts
  unfolding use_entry
  use_shape_lem s = rw s

  module _ (s : use_shape l e.place ≡ 0) where
    pub use_offered : offers l.params.null a ≡ 3 → use_entry l e a ≡ leave (refused 3 []) 0 l.counts
    unfolding use_entry
    use_offered o = rw (s, o)

    module _ (o : offers l.params.null a ≡ 0) where
      pub use_zero : l.params.hash_of e.key ≡ 0 → use_entry l e a ≡ leave (refused 2 []) 0 l.counts
      unfolding use_entry
      use_zero z = rw (s, o, eq-eqb _ 0 z)

      module _ (some : l.params.hash_of e.key ≢ 0) where
        past : use_entry l e a ≡ unless (stale l e) l.counts (used l e e.place a)
        unfolding use_entry
        past = rw (s, o, ne_eqb _ 0 some)

        pub use_stale : stale l e ≡ 7 → use_entry l e a ≡ leave (refused 7 []) 0 l.counts
        use_stale t = past ∙ rw t

        pub use_past : stale l e ≡ 0 → use_entry l e a ≡ used l e e.place a
        use_past t = past ∙ rw t

-- ---- check 7

module _ (l : Lent) (e : Entry) where
  pub stale_other : e.hash ≢ l.params.hash_of e.key → stale l e ≡ 7
  unfolding stale
  stale_other n = rw (ne_eqb _ _ n, or_right (outdated l e e.place) true refl)

  pub stale_outdated : outdated l e e.place ≡ true → stale l e ≡ 7
  unfolding stale
  stale_outdated t = rw t

  pub stale_not : e.hash ≡ l.params.hash_of e.key → outdated l e e.place ≡ false → stale l e ≡ 0
  unfolding stale
  stale_not h t = rw (t, eq-eqb _ _ h)

  stale_says : (o o' : Outcome) → (stale l e ≡ 7 → o ≡ o') → (stale l e ≡ 0 → o ≡ o') → o ≡ o'
  unfolding stale
  stale_says o o' f g = go (outdated l e e.place || not (eqb e.hash (l.params.hash_of e.key))) refl
    where
      go : (b : Bool) → outdated l e e.place || not (eqb e.hash (l.params.hash_of e.key)) ≡ b → o ≡ o'
      go true q = f (rw q)
      go false q = g (rw q)

-- ---- an Occupied entry's actions, by what a look shows

module _ (ws ds : List ℕ) (t : Table) (e : Entry) (a : Action) (s : use_shape (lent ws ds t) e.place ≡ 0) (o : offers null a ≡ 0) where
  pub use_held : (i v : ℕ) → HeldAt (hash_of t.hasher) ws e i v → use_entry (lent ws ds t) e a ≡ used_at (lent ws ds t) i v a
  use_held i v h =
      use_past (lent ws ds t) e a s o h.some (stale_not (lent ws ds t) e h.own fresh) ∙ rw (h.at, h.value)
    where
      taken : hash_in ws i ≢ 0
      taken z = h.some (sym h.own ∙ sym (eqb-true _ _ (and_parts (eqb (hash_in ws i) e.hash) _ h.holds).0) ∙ z)

      fresh : outdated (lent ws ds t) e e.place ≡ false
      fresh = rw (h.at, h.holds, ne_eqb (hash_in ws i) 0 taken, ne_eqb (value_in ws i) null (λ y. h.live (h.value ∙ y)))

  -- Stale, where the action is not a Vacant entry's
  pub use_unheld : hash_of t.hasher e.key ≢ 0 → Unheld (hash_of t.hasher) ws e
      → (e.place ≡ vacant → used_vacant (lent ws ds t) e a ≡ leave (refused 7 []) 0 (lent ws ds t).counts)
      → use_entry (lent ws ds t) e a ≡ leave (refused 7 []) 0 (lent ws ds t).counts
  use_unheld some (other_hash n) f = use_stale (lent ws ds t) e a s o some (stale_other (lent ws ds t) e n)
  use_unheld some (not_occupied p) f =
      stale_says (lent ws ds t) e _ _ (use_stale (lent ws ds t) e a s o some) (λ z. use_past (lent ws ds t) e a s o some z ∙ ap (λ (x : Place). used (lent ws ds t) e x a) p ∙ f p)
  use_unheld some (lost i p q) f = use_stale (lent ws ds t) e a s o some (stale_outdated (lent ws ds t) e (rw (p, q)))
  use_unheld some (gone i p q) f =
      use_stale (lent ws ds t) e a s o some (stale_outdated (lent ws ds t) e (rw (p, eq-eqb _ _ q) (ap not (and_right (holds_in ws i e.hash e.key) _ (and_right (not (eqb (hash_in ws i) 0)) _ refl)))))

-- ---- what check 1 shows

-- the cell of an Occupied entry lies within the words
pub held_in : (S : ℕ) (ws : List ℕ) (p : Place) (i : ℕ) → 3 * S ≤ length ws → below S p ≡ true → p ≡ occupied i → 3 * i + 2 < length ws
held_in S ws p i l b q = words_hold S ws i l (ltb-true i S (rw q at b))

-- the size that check 1 of a use answers, or none
module _ (ws ds : List ℕ) (t : Table) (p : Place) {o : Option ℕ} (w : o ≡ use_size ws ds t.live p) where
  pub use_sized : {n : ℕ} → o ≡ Some n → (n ≡ size_in ds) × (use_shape (lent ws ds t) p ≡ 0)
  use_sized q = let a = sized _ (size_in ds) (sym q ∙ w) in (a.1, use_passes (lent ws ds t) p a.0)

  pub use_unsized : o ≡ None → use_shape (lent ws ds t) p ≡ 1
  use_unsized q = use_fails (lent ws ds t) p (unsized _ (size_in ds) (sym q ∙ w))

  -- what the workers ask for
  pub use_ready : {n : ℕ} → o ≡ Some n → Shaped n ws ds × (below n p ≡ true)
  use_ready q =
      let a = sized _ (size_in ds) (sym q ∙ w) in
      let b = and_parts (is_shaped ws ds && leb t.live (size_in ds)) _ a.0 in
      rw a.1 ((passed ws ds t.live b.0).0, b.1)

-- ---- an Occupied entry's actions, by what the code's look answered

module _ (ws ds : List ℕ) (t : Table) (e : Entry) (a : Action) {m : Option ℕ} {n : ℕ} (c : m ≡ use_size ws ds t.live e.place) (p : m ≡ Some n)
    (o : offers null a ≡ 0) (r : Result CellValue LookError) (w : Looks (hash_of t.hasher) ws e r) where
  pub on_held : (cell : CellValue) → r ≡ Ok cell → use_entry (lent ws ds t) e a ≡ used_at (lent ws ds t) cell.index cell.value a
  on_held cell q = use_held ws ds t e a (use_sized ws ds t e.place c p).1 o cell.index cell.value (rw q at w)

  -- refused, where the action is not a Vacant entry's
  pub on_error : (x : LookError) → r ≡ Err x → (e.place ≡ vacant → used_vacant (lent ws ds t) e a ≡ leave (refused 7 []) 0 (lent ws ds t).counts)
      → use_entry (lent ws ds t) e a ≡ leave (look_failed x) 0 (lent ws ds t).counts
  on_error ZeroHash q f = use_zero (lent ws ds t) e a (use_sized ws ds t e.place c p).1 o (rw q at w)
  on_error Stale q f = let u = rw q at w in use_unheld ws ds t e a (use_sized ws ds t e.place c p).1 o u.0 u.1 f

-- the cell of a look is the entry's
pub looked_at : (f : ℕ → ℕ) (ws : List ℕ) (e : Entry) (r : Result CellValue LookError) → Looks f ws e r → (cell : CellValue) → r ≡ Ok cell → e.place ≡ occupied cell.index
looked_at f ws e r w cell q = let h = rw q at w in h.at

-- ---- an error that is passed on

module _ {T E X : Type 0} (said : Result T E → X) where
  -- as another that is told alike
  pub passed_as : (r : Result T E) (x : X) → IsErrAnd r (λ e. said (Err e) ≡ x) → said r ≡ x
  passed_as (Ok v) x p = absurd p
  passed_as (Err e) x p = p

  -- as the one that stands for a None
  pub passed_none : {A : Type 0} (r : Result T E) (e e' : E) → IsErrAnd r (λ y. y ≡ e) → ◌≡◌ {A = Result A E} (Err e) (Err e') → said r ≡ said (Err e')
  passed_none (Ok v) e e' p q = absurd p
  passed_none (Err y) e e' p q = let z : y ≡ e' = cc in ap (λ (y : E). said (Err y)) z
