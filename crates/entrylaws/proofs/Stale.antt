-- Stale exactly when 01 says, and what a refused use leaves. Assumes nothing.
use mathlib.Core.List.{List, []}
use mathlib.Core.Logic.{◌≢◌, ◌↔◌}
use mathlib.Core.Path.{◌≡◌, refl, sym, ap, subst, ◌∙◌}
use Prim.Native.Nat.{ℕ}
use native.Mathlib.Omega.{arith}
use Rattle.rules.specs.Cells.{Cells, Counts, Lent}
use Rattle.rules.specs.Answers.{Said, new, revived, refused, Change, Outcome, leave}
use Rattle.rules.specs.Calls.{insert_stored}
use Rattle.rules.specs.Entries.{Place, occupied, vacant, Entry, Action, reading, keeping, inserting, use_entry}
use Rattle.laws.specs.Left.{Leaves, live_after}
use Rattle.laws.specs.Ways.{Added, room, over, InsertWay}
use Rattle.laws.specs.Ways as inserted
use Rattle.laws.proofs.Ways.{insert_way}
use Rattle.laws.proofs.Refusals.{stored_refused_leaves}
use Rattle.laws.proofs.Counted.{stored_counted}
use Rattle.entrylaws.specs.Uses.{OtherCase, Reads, StaleWhen, lost, there, other_hash, other_case, Past, Usable, Insertable, UseWay}
use Rattle.entrylaws.specs.Uses as ways
use Rattle.entrylaws.proofs.Ways.{use_way}

-- an insert past the checks is never Stale
module _ (S null : ℕ) (cs : Cells) (value : ℕ → ℕ) (c : Counts) (h k v : ℕ) where
  added_not_7 : {n : ℕ} (s : Said) (change : Change) (o : Outcome) → s ≢ refused 7 [] → Added S c n s change o → o.said ≢ refused 7 []
  added_not_7 s change o f (room l e) q = f (sym (ap (λ (x : Outcome). x.said) e) ∙ q)
  added_not_7 s change o f (over l e) q = let z : ◌≡◌ {A = ℕ} 5 7 = cc in absurd (omega arith)

  pub stored_not_7 : (insert_stored S null cs value c h k v).said ≢ refused 7 []
  stored_not_7 = go _ (insert_way S null cs value c h k v)
    where
      go : (o : Outcome) → InsertWay S null cs value c h k v o → o.said ≢ refused 7 []
      go o (inserted.homed a b) x = added_not_7 new _ o (λ q. let z : ◌≡◌ {A = ℕ} 0 1 = cc in omega arith) b x
      go o (inserted.replaces q a b d e) x = let z : ◌≡◌ {A = ℕ} 0 1 = cc in omega arith
      go o (inserted.revives q a b d e) x = added_not_7 revived _ o (λ q. let z : ◌≡◌ {A = ℕ} 0 1 = cc in omega arith) e x
      go o (inserted.linked q d a b e f) x = added_not_7 new _ o (λ q. let z : ◌≡◌ {A = ℕ} 0 1 = cc in omega arith) f x
      go o (inserted.full q a b d e) x = let z : ◌≡◌ {A = ℕ} 4 7 = cc in omega arith
      go o (inserted.endless a b d) x = let z : ◌≡◌ {A = ℕ} 5 7 = cc in omega arith

module _ (l : Lent) (e : Entry) (a : Action) where
  -- an Occupied entry past every check is not Stale
  usable_fresh : (i : ℕ) → Usable l e a i → (OtherCase (occupied i) a → ⊥) → StaleWhen l e a → ⊥
  usable_fresh i u f (lost j p n) = let q : j ≡ i = cc (p, u.at) in n (rw q u.there)
  usable_fresh i u f (there v p x) = let z : ◌≡◌ {A = ℕ} 0 1 = cc (p, u.at) in omega arith
  usable_fresh i u f (other_hash n) = n u.own
  usable_fresh i u f (other_case x) = f (subst (λ (y : Place). OtherCase y a) u.at x)

  -- nor is a Vacant one
  insertable_fresh : (v : ℕ) → Insertable l e a → a ≡ inserting v → StaleWhen l e a → ⊥
  insertable_fresh v u q (lost i p n) = let z : ◌≡◌ {A = ℕ} 0 1 = cc (p, u.at) in omega arith
  insertable_fresh v u q (there x p f) = u.unfound x f
  insertable_fresh v u q (other_hash n) = n u.own
  insertable_fresh v u q (other_case x) = subst (λ (y : Action). OtherCase vacant y) q (subst (λ (y : Place). OtherCase y a) u.at x)

reads_own : (i : ℕ) (a : Action) → Reads a → OtherCase (occupied i) a → ⊥
reads_own i reading x y = y
reads_own i (keeping v) x y = y
reads_own i Rattle.rules.specs.Entries.removing x y = elim x [ ]
reads_own i (inserting _) x y = elim x [ ]
reads_own i (Rattle.rules.specs.Entries.replacing _) x y = elim x [ ]

module _ (l : Lent) (e : Entry) (a : Action) where
  says_stale : (o : Outcome) → UseWay l e a o → o.said ≡ refused 7 [] → Past l e a × StaleWhen l e a
  says_stale o (ways.by1 s q) x = let z : ◌≡◌ {A = ℕ} 1 7 = cc in absurd (omega arith)
  says_stale o (ways.by3 s f q) x = let z : ◌≡◌ {A = ℕ} 3 7 = cc in absurd (omega arith)
  says_stale o (ways.by2 s f h q) x = let z : ◌≡◌ {A = ℕ} 2 7 = cc in absurd (omega arith)
  says_stale o (ways.by7 p s q) x = (p, s)
  says_stale o (ways.reads i u r q) x = let z : ◌≡◌ {A = ℕ} 0 1 = cc in absurd (omega arith)
  says_stale o (ways.replaces i v u r q) x = let z : ◌≡◌ {A = ℕ} 0 1 = cc in absurd (omega arith)
  says_stale o (ways.removes i u r m q) x = let z : ◌≡◌ {A = ℕ} 0 1 = cc in absurd (omega arith)
  says_stale o (ways.under i u r m q) x = let z : ◌≡◌ {A = ℕ} 5 7 = cc in absurd (omega arith)
  says_stale o (ways.inserts v u r q) x =
      absurd (stored_not_7 _ _ _ _ _ _ _ _ (sym (ap (λ (y : Outcome). y.said) q) ∙ x))

  stale_says : (o : Outcome) → UseWay l e a o → Past l e a → StaleWhen l e a → o ≡ leave (refused 7 []) 0 l.counts
  stale_says o (ways.by1 s q) p x = absurd (omega (arith, s, p.shape))
  stale_says o (ways.by3 s f q) p x = absurd (omega (arith, f, p.offer))
  stale_says o (ways.by2 s f h q) p x = absurd (omega (arith, h, p.hash))
  stale_says o (ways.by7 y s q) p x = q
  stale_says o (ways.reads i u r q) p x = absurd (usable_fresh l e a i u (reads_own i a r) x)
  stale_says o (ways.replaces i v u r q) p x = absurd (usable_fresh l e a i u (λ y. subst (λ (b : Action). OtherCase (occupied i) b) r y) x)
  stale_says o (ways.removes i u r m q) p x = absurd (usable_fresh l e a i u (λ y. subst (λ (b : Action). OtherCase (occupied i) b) r y) x)
  stale_says o (ways.under i u r m q) p x = absurd (usable_fresh l e a i u (λ y. subst (λ (b : Action). OtherCase (occupied i) b) r y) x)
  stale_says o (ways.inserts v u r q) p x = absurd (insertable_fresh l e a v u r x)

  -- a use is Stale exactly when it is past checks 1, 3 and 2, and one of 01's four holds
  pub stale_exactly : ((use_entry l e a).said ≡ refused 7 []) ↔ (Past l e a × StaleWhen l e a)
  stale_exactly =
      (says_stale _ (use_way l e a), λ x. ap (λ (o : Outcome). o.said) (stale_says _ (use_way l e a) x.0 x.1))

  -- a refused use leaves all
  pub use_refused_leaves : (n : ℕ) (x : List ℕ) → (use_entry l e a).said ≡ refused n x → Leaves l.counts (use_entry l e a)
  use_refused_leaves n x = go _ (use_way l e a)
    where
      left : (o : Outcome) (s : Said) → o ≡ leave s 0 l.counts → Leaves l.counts o
      left o s q = rw q (record { change = refl; counts = refl })

      go : (o : Outcome) → UseWay l e a o → o.said ≡ refused n x → Leaves l.counts o
      go o (ways.by1 s q) y = left o _ q
      go o (ways.by3 s f q) y = left o _ q
      go o (ways.by2 s f h q) y = left o _ q
      go o (ways.by7 p s q) y = left o _ q
      go o (ways.reads i u r q) y = left o _ q
      go o (ways.replaces i v u r q) y = let z : ◌≡◌ {A = ℕ} 0 1 = cc in absurd (omega arith)
      go o (ways.removes i u r m q) y = let z : ◌≡◌ {A = ℕ} 0 1 = cc in absurd (omega arith)
      go o (ways.under i u r m q) y = left o _ q
      go o (ways.inserts v u r q) y =
          let f = stored_refused_leaves n x l.params.S l.params.null l.cells l.value l.counts (l.params.hash_of e.key) e.key v (sym (ap (λ (o : Outcome). o.said) q) ∙ y) in
          record { change = ap (λ (o : Outcome). o.change) q ∙ f.change; counts = ap (λ (o : Outcome). o.counts) q ∙ f.counts }

  -- New and Revived add 1 to live, Removed takes 1, every other answer leaves it
  pub use_counted : (use_entry l e a).counts.live ≡ live_after (use_entry l e a).said l.counts.live
  use_counted = go _ (use_way l e a)
    where
      go : (o : Outcome) → UseWay l e a o → o.counts.live ≡ live_after o.said l.counts.live
      go o (ways.by1 s q) = rw q
      go o (ways.by3 s f q) = rw q
      go o (ways.by2 s f h q) = rw q
      go o (ways.by7 p s q) = rw q
      go o (ways.reads i u r q) = rw q
      go o (ways.replaces i v u r q) = rw q
      go o (ways.removes i u r m q) = rw q
      go o (ways.under i u r m q) = rw q
      go o (ways.inserts v u r q) =
          rw q (stored_counted l.params.S l.params.null l.cells l.value l.counts (l.params.hash_of e.key) e.key v)
