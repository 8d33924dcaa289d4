-- Every use of an entry ends in one of its ways. Assumes nothing.
use mathlib.Core.Bool.{Bool, true, false, cond, not, ◌&&◌, ◌||◌}
use mathlib.Core.Logic.{◌≢◌, ◌⊎◌, inl, inr}
use mathlib.Core.Path.{◌≡◌, refl, sym, ap, subst, ◌∙◌}
use Prim.Native.Nat.{ℕ}
use native.Mathlib.Omega.{arith}
use borrow.Author.Tests.{eq-eqb, eqb-true, eqb-false}
use lib.Dec.{eqb, leb}
use Rattle.rules.specs.Cells.{Counts, Lent, holds, zero_hash}
use Rattle.rules.specs.Answers.{Said, found, absent, new, replaced, revived, removed, refused, Change, Counted, is, out, counts_after, counted, Outcome, unless, settle}
use Rattle.rules.specs.Calls.{find, insert_stored}
use Rattle.rules.specs.Entries.{Place, occupied, vacant, Entry, Action, reading, keeping, replacing, removing, inserting, below, use_shape, offers, is_found, outdated, stale, uncounted, used_at, used_vacant, used, use_entry}
use Rattle.steps.proofs.Branches.{settle_replaced, settle_removed, settle_removed_out}
use Rattle.sound.proofs.Walks.{holds_both, both_holds}
use Rattle.sound.proofs.Live.{is_live_lem}
use Rattle.entrylaws.specs.Uses.{HoldsLive, lost, there, other_hash, other_case, OtherCase, Past, Usable, Insertable, UseWay}
use Rattle.entrylaws.specs.Uses as ways

-- ---- the checks give their number, or 0

cond_says : (b : Bool) (m n : ℕ) → (cond {A = ℕ} b m n ≡ m) ⊎ (cond {A = ℕ} b m n ≡ n)
cond_says true m n = inl refl
cond_says false m n = inr refl

pub offers_says : (null : ℕ) (a : Action) → (offers null a ≡ 3) ⊎ (offers null a ≡ 0)
offers_says null reading = inr refl
offers_says null (keeping v) = cond_says (eqb v null) 3 0
offers_says null (replacing v) = cond_says (eqb v null) 3 0
offers_says null removing = inr refl
offers_says null (inserting v) = cond_says (eqb v null) 3 0

both : (a b : Bool) → a && b ≡ true → (a ≡ true) × (b ≡ true)
both true b e = (refl, e)
both false b e = let z : ◌≡◌ {A = ℕ} 0 1 = cc in absurd (omega arith)

flipped : (b : Bool) → not b ≡ false → b ≡ true
flipped true e = refl
flipped false e = let z : ◌≡◌ {A = ℕ} 0 1 = cc in absurd (omega arith)

-- ---- check 7

module _ (l : Lent) (e : Entry) where
  -- a cell that holds the entry live is not outdated
  pub held_fresh : (i : ℕ) → HoldsLive l e i → outdated l e (occupied i) ≡ false
  held_fresh i h =
      rw (both_holds l.cells i e.hash e.key h.hash h.key, is_live_lem l.params l.cells l.value i h.taken h.live)

  -- and the other way
  pub fresh_held : (i : ℕ) → outdated l e (occupied i) ≡ false → HoldsLive l e i
  fresh_held i q =
      let b = both (holds l.cells i e.hash e.key) _ (flipped _ q) in
      let k = holds_both l.cells i e.hash e.key b.0 in
      let t = both (not (eqb (l.cells.hash i) 0)) _ b.1 in
      record {
        hash = k.0;
        key = k.1;
        taken = λ z. clash (eq-eqb _ _ z) t.0;
        live = λ z. clash (eq-eqb _ _ z) t.1;
      }
    where
      clash : {b : Bool} → b ≡ true → not b ≡ true → ⊥
      clash {b} p q = let z : ◌≡◌ {A = ℕ} 0 1 = cc (rw p at q) in omega arith

  -- by the answer of a find
  found_some : (s : Said) → is_found s ≡ true → (v : ℕ) × (s ≡ found v)
  found_some (found v) q = (v, refl)
  found_some absent q = let z : ◌≡◌ {A = ℕ} 0 1 = cc in absurd (omega arith)
  found_some new q = let z : ◌≡◌ {A = ℕ} 0 1 = cc in absurd (omega arith)
  found_some (replaced v) q = let z : ◌≡◌ {A = ℕ} 0 1 = cc in absurd (omega arith)
  found_some revived q = let z : ◌≡◌ {A = ℕ} 0 1 = cc in absurd (omega arith)
  found_some (removed v) q = let z : ◌≡◌ {A = ℕ} 0 1 = cc in absurd (omega arith)
  found_some (refused n x) q = let z : ◌≡◌ {A = ℕ} 0 1 = cc in absurd (omega arith)

  found_none : (s : Said) → is_found s ≡ false → (v : ℕ) → s ≢ found v
  found_none s q v p = let z : ◌≡◌ {A = ℕ} 0 1 = cc (rw p at q) in omega arith

  unfound_says : (s : Said) → ((v : ℕ) → s ≢ found v) → is_found s ≡ false
  unfound_says (found v) f = absurd (f v refl)
  unfound_says absent f = refl
  unfound_says new f = refl
  unfound_says (replaced v) f = refl
  unfound_says revived f = refl
  unfound_says (removed v) f = refl
  unfound_says (refused n x) f = refl

  -- ---- past checks 1, 3 and 2

  abbrev Rest : Action → (b c : Bool) → Outcome → Outcome
  Rest a b c o = unless (cond (b || not c) 7 0) l.counts o

  module _ (i : ℕ) (p : e.place ≡ occupied i) where
    usable : (a : Action) → Past l e a → outdated l e (occupied i) ≡ false → eqb e.hash (l.params.hash_of e.key) ≡ true → Usable l e a i
    usable a past q r = record { past = past; at = p; own = eqb-true _ _ r; there = fresh_held i q }

    removed_way : Past l e removing → Usable l e removing i → (b : Bool) → eqb l.counts.live 0 ≡ b → UseWay l e removing (used_at l i (l.value i) removing)
    removed_way past u true q =
        let z = eqb-true l.counts.live 0 q in
        ways.under i u refl z (settle_removed_out _ l.counts 0 _ _ z)
    removed_way past u false q =
        let z = eqb-false l.counts.live 0 q in
        ways.removes i u refl (omega arith) (settle_removed _ l.counts 0 _ _ z)

    occupied_way : (a : Action) → Past l e a → (b : Bool) → outdated l e (occupied i) ≡ b → (c : Bool) → eqb e.hash (l.params.hash_of e.key) ≡ c
        → UseWay l e a (Rest a b c (used_at l i (l.value i) a))
    occupied_way a past true q c r =
        ways.by7 past (lost i p (λ h. let z : ◌≡◌ {A = ℕ} 0 1 = cc (q, held_fresh i h) in omega arith)) refl
    occupied_way a past false q false r = ways.by7 past (other_hash (eqb-false _ _ r)) refl
    occupied_way reading past false q true r = ways.reads i (usable reading past q r) tt refl
    occupied_way (keeping v) past false q true r = ways.reads i (usable (keeping v) past q r) tt refl
    occupied_way (replacing v) past false q true r =
        ways.replaces i v (usable (replacing v) past q r) refl (settle_replaced _ l.counts 0 _ _)
    occupied_way removing past false q true r = removed_way past (usable removing past q r) (eqb l.counts.live 0) refl
    occupied_way (inserting v) past false q true r = ways.by7 past (other_case (subst (λ (x : Place). OtherCase x (inserting v)) (sym p) tt)) refl

  module _ (p : e.place ≡ vacant) where
    other : (a : Action) → OtherCase vacant a → OtherCase e.place a
    other a x = subst (λ (y : Place). OtherCase y a) (sym p) x

    vacant_way : (a : Action) → Past l e a → (b : Bool) → is_found (find l e.key).said ≡ b → (c : Bool) → eqb e.hash (l.params.hash_of e.key) ≡ c
        → UseWay l e a (Rest a b c (used_vacant l e a))
    vacant_way a past true q c r = let f = found_some _ q in ways.by7 past (there f.0 p f.1) refl
    vacant_way a past false q false r = ways.by7 past (other_hash (eqb-false _ _ r)) refl
    vacant_way reading past false q true r = ways.by7 past (other_case (other reading tt)) refl
    vacant_way (keeping v) past false q true r = ways.by7 past (other_case (other (keeping v) tt)) refl
    vacant_way (replacing v) past false q true r = ways.by7 past (other_case (other (replacing v) tt)) refl
    vacant_way removing past false q true r = ways.by7 past (other_case (other removing tt)) refl
    vacant_way (inserting v) past false q true r =
        let own = eqb-true _ _ r in
        ways.inserts v (record { past = past; at = p; own = own; unfound = found_none _ q }) refl
        (ap (λ (h : ℕ). uncounted (insert_stored l.params.S l.params.null l.cells l.value l.counts h e.key v)) own)

  past_way : (a : Action) → Past l e a → (x : Place) → e.place ≡ x → UseWay l e a (unless (cond (outdated l e x || not (eqb e.hash (l.params.hash_of e.key))) 7 0) l.counts (used l e x a))
  past_way a past (occupied i) p = occupied_way i p a past _ refl _ refl
  past_way a past vacant p = vacant_way p a past _ refl _ refl

  -- a use is refused by 1, 3, 2 or 7, in this order, or does what it is for
  pub use_way : (a : Action) → UseWay l e a (use_entry l e a)
  unfolding use_entry stale
  use_way a = go (cond_says (l.shaped && leb l.counts.live l.params.S && below l.params.S e.place) 0 1) (offers_says l.params.null a) (cond_says (eqb (l.params.hash_of e.key) 0) 2 0)
    where
      go : (use_shape l e.place ≡ 0) ⊎ (use_shape l e.place ≡ 1) → (offers l.params.null a ≡ 3) ⊎ (offers l.params.null a ≡ 0)
          → (zero_hash (l.params.hash_of e.key) ≡ 2) ⊎ (zero_hash (l.params.hash_of e.key) ≡ 0)
          → UseWay l e a (unless (use_shape l e.place) l.counts (unless (offers l.params.null a) l.counts
          (unless (zero_hash (l.params.hash_of e.key)) l.counts (unless (cond (outdated l e e.place || not (eqb e.hash (l.params.hash_of e.key))) 7 0) l.counts (used l e e.place a)))))
      go (inr s) o h = ways.by1 s (rw s)
      go (inl s) (inl o) h = ways.by3 s o (rw (s, o))
      go (inl s) (inr o) (inl h) = ways.by2 s o h (rw (s, o, h))
      go (inl s) (inr o) (inr h) = rw (s, o, h) (past_way a (record { shape = s; offer = o; hash = h }) e.place refl)

-- ---- past every check

module _ (l : Lent) (e : Entry) (a : Action) where
  past_used : Past l e a → stale l e ≡ 0 → use_entry l e a ≡ used l e e.place a
  unfolding use_entry
  past_used p s = rw (p.shape, p.offer, p.hash, s)

  not_stale : e.hash ≡ l.params.hash_of e.key → outdated l e e.place ≡ false → stale l e ≡ 0
  unfolding stale
  not_stale own q = rw (q, eq-eqb _ _ own)

  -- an Occupied entry is used at its cell
  pub usable_used : (i : ℕ) → Usable l e a i → use_entry l e a ≡ used_at l i (l.value i) a
  usable_used i u =
      past_used u.past (not_stale u.own (rw u.at (held_fresh l e i u.there))) ∙ ap (λ (x : Place). used l e x a) u.at

  -- a Vacant one as the rule says
  pub insertable_used : Insertable l e a → use_entry l e a ≡ used_vacant l e a
  insertable_used u =
      past_used u.past (not_stale u.own (rw u.at (unfound_says l e (find l e.key).said u.unfound))) ∙ ap (λ (x : Place). used l e x a) u.at

-- an answer without its count, or Broken
pub uncounted_settle : (S : ℕ) (c : Counts) (n : ℕ) (s : Said) (change : Change) → uncounted (settle S c n s change) ≡ settle S c 0 s change
unfolding settle
uncounted_settle S c n s change = go (counts_after S c s)
  where
    go : (x : Counted) → uncounted (counted s n c change x) ≡ counted s 0 c change x
    go (is c') = refl
    go out = refl
