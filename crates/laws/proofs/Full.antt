-- An insert is Full exactly when its home is taken, the key is not met at its home or on its chain, and every cell of its probe
-- window is taken. Assumes nothing.
use mathlib.Core.List.{List, [], ◌∷◌, Memᴰ}
use mathlib.Core.Logic.{◌≢◌, ◌↔◌}
use mathlib.Core.Path.{◌≡◌, sym, ap, subst, ◌∙◌}
use Prim.Native.Nat.{ℕ, ◌+◌, ◌%◌}
use native.Mathlib.Omega.{arith}
use lib.ListN.{length}
use Rattle.rules.specs.Sizes.{window}
use Rattle.rules.specs.Cells.{Cells, Counts, Lent}
use Rattle.rules.specs.Walk.{met, tail, walk, on}
use Rattle.rules.specs.Answers.{Said, refused, Change, Outcome, leave}
use Rattle.rules.specs.Calls.{insert_seen, insert_stored, insert}
use Rattle.laws.specs.Ways as ways
use Rattle.laws.specs.Ways.{Added, room, over, InsertWay, InsertChecked}
use Rattle.laws.specs.Full.{Unmet, WindowTaken, FullWhen, IsFull, Unrefused, FullAfter}
use Rattle.laws.proofs.Ways.{insert_way, insert_checked}
use Rattle.laws.proofs.Stops.{met_last, met_holds, tail_last, tail_unmet, last_seen}
use Rattle.laws.proofs.Hits.{none_taken, free_some, free_most, free_empty}

-- an answer that adds to live is not Full, with room or without
added_not_full : {S : ℕ} {c : Counts} {n : ℕ} (s : Said) {change : Change} (o : Outcome) → ((l : List ℕ) → s ≢ refused 4 l) → Added S c n s change o
    → IsFull o.said → ⊥
added_not_full s o other (room l e) f = other f.carried (ap (λ (o : Outcome). o.said) (sym e) ∙ f.says)
added_not_full s o other (over l e) f = let z : ◌≡◌ {A = ℕ} 5 4 = cc in absurd (omega arith)

module _ (S null : ℕ) (cs : Cells) (value : ℕ → ℕ) (c : Counts) (h k v : ℕ) where
  -- only where the probe found none is an insert Full
  full_way : (o : Outcome) → InsertWay S null cs value c h k v o → IsFull o.said → FullWhen S cs h k
  full_way o (ways.homed a b) f = absurd (added_not_full _ o (λ l e. let z : ◌≡◌ {A = ℕ} 0 1 = cc in absurd (omega arith)) b f)
  full_way o (ways.replaces q a b d e) f = let z : ◌≡◌ {A = ℕ} 0 1 = cc in absurd (omega arith)
  full_way o (ways.revives q a b d e) f = absurd (added_not_full _ o (λ l e. let z : ◌≡◌ {A = ℕ} 0 1 = cc in absurd (omega arith)) e f)
  full_way o (ways.linked q d a b x e) f = absurd (added_not_full _ o (λ l e. let z : ◌≡◌ {A = ℕ} 0 1 = cc in absurd (omega arith)) e f)
  full_way o (ways.full q a b x e) f =
      record { home = a; unmet = tail_unmet S cs h k q b; last = q; ends = b; window_taken = none_taken S cs q x }
  full_way o (ways.endless a b e) f = let z : ◌≡◌ {A = ℕ} 5 4 = cc in absurd (omega arith)

  -- and there it is
  way_full : (o : Outcome) → InsertWay S null cs value c h k v o → (w : FullWhen S cs h k)
      → o ≡ leave (refused 4 (on w.last (window S + 1) ∷ [])) (length (insert_seen S cs h k)) c
  way_full o (ways.homed a b) w = absurd (w.home a)
  way_full o (ways.replaces q a b d e) w = let z : ◌≡◌ {A = ℕ} 0 1 = cc (b, w.ends) in absurd (omega arith)
  way_full o (ways.revives q a b d e) w = let z : ◌≡◌ {A = ℕ} 0 1 = cc (b, w.ends) in absurd (omega arith)
  way_full o (ways.linked q d a b x e) w =
      let z : q ≡ w.last = cc (b, w.ends) in
      absurd (w.window_taken d (free_some S cs q d x) (free_most S cs q d x) (subst (λ (t : ℕ). cs.hash (on t d % S) ≡ 0) z (free_empty S cs q d x)))
  way_full o (ways.full q a b x e) w = let z : q ≡ w.last = cc (b, w.ends) in rw (← z) e
  way_full o (ways.endless a b e) w = let z : ◌≡◌ {A = ℕ} 0 1 = cc (b, w.ends) in absurd (omega arith)

  -- where it is Full by the cells, the insert leaves all, carries tail + P + 1 and reports its positions
  pub stored_full : (w : FullWhen S cs h k) → insert_stored S null cs value c h k v ≡ leave (refused 4 (on w.last (window S + 1) ∷ [])) (length (insert_seen S cs h k)) c
  stored_full w = way_full _ (insert_way S null cs value c h k v) w

  -- an insert past the checks is Full exactly when it is Full by the cells
  pub stored_full_exactly : IsFull (insert_stored S null cs value c h k v).said ↔ FullWhen S cs h k
  stored_full_exactly =
      (full_way _ (insert_way S null cs value c h k v), λ w. record { carried = _; says = ap (λ (o : Outcome). o.said) (stored_full w) })

  -- and then it carries exactly tail + P + 1, wrapped
  pub stored_full_carries : (carried : List ℕ) → (insert_stored S null cs value c h k v).said ≡ refused 4 carried → (w : FullWhen S cs h k)
      → carried ≡ on w.last (window S + 1) ∷ []
  stored_full_carries carried e w = cc (e, ap (λ (o : Outcome). o.said) (stored_full w))

  -- ---- by the positions alone, where it is not Broken

  -- a walk none of whose positions holds the key did not meet it
  not_met : (q : ℕ) → (walk S cs h k).stop ≡ met q → Unmet S cs h k (walk S cs h k).seen → ⊥
  not_met q e u =
      let t = met_holds S cs h k q e in
      let f = u q (subst (λ (x : ℕ). Memᴰ x (walk S cs h k).seen) (sym (met_last S cs h k q e)) (last_seen S cs h k)) in
      let z : ◌≡◌ {A = ℕ} 0 1 = cc in
      absurd (omega arith)

  when_after : FullWhen S cs h k → FullAfter S cs h k
  when_after w =
      record {
        home = w.home;
        unmet = w.unmet;
        window_taken = subst (λ (t : ℕ). WindowTaken S cs t) (tail_last S cs h k w.last w.ends) w.window_taken;
      }

  at_tail : (q : ℕ) → (walk S cs h k).stop ≡ tail q → FullAfter S cs h k → FullWhen S cs h k
  at_tail q e w =
      record {
        home = w.home;
        unmet = w.unmet;
        last = q;
        ends = e;
        window_taken = subst (λ (t : ℕ). WindowTaken S cs t) (sym (tail_last S cs h k q e)) w.window_taken;
      }

  after_when : (o : Outcome) → InsertWay S null cs value c h k v o → o.said ≢ refused 5 [] → FullAfter S cs h k → FullWhen S cs h k
  after_when o (ways.homed a b) n w = absurd (w.home a)
  after_when o (ways.replaces q a b d e) n w = absurd (not_met q b w.unmet)
  after_when o (ways.revives q a b d e) n w = absurd (not_met q b w.unmet)
  after_when o (ways.linked q d a b x e) n w = at_tail q b w
  after_when o (ways.full q a b x e) n w = at_tail q b w
  after_when o (ways.endless a b e) n w = absurd (n (ap (λ (o : Outcome). o.said) e))

  -- where it is not Broken, it is Full exactly when the positions alone say so
  pub stored_full_after : (insert_stored S null cs value c h k v).said ≢ refused 5 [] → IsFull (insert_stored S null cs value c h k v).said ↔ FullAfter S cs h k
  stored_full_after n = (
    λ f. when_after (stored_full_exactly.0 f),
    λ w. stored_full_exactly.1 (after_when _ (insert_way S null cs value c h k v) n w),
  )

-- ---- an insert with its checks

module _ (l : Lent) (k v : ℕ) where
  -- an insert that 1, 2 and 3 don't refuse is past the checks
  pub unrefused_past : Unrefused (insert l k v).said
      → insert l k v ≡ insert_stored l.params.S l.params.null l.cells l.value l.counts (l.params.hash_of k) k v
  unrefused_past u = go (insert l k v) (insert_checked l k v) u
    where
      go : (o : Outcome) → InsertChecked l k v o → Unrefused o.said
          → o ≡ insert_stored l.params.S l.params.null l.cells l.value l.counts (l.params.hash_of k) k v
      go o (ways.by1 a e) u = absurd (u.shape (ap (λ (o : Outcome). o.said) e))
      go o (ways.by3 a b e) u = absurd (u.null (ap (λ (o : Outcome). o.said) e))
      go o (ways.by2 a b d e) u = absurd (u.hash_not_zero (ap (λ (o : Outcome). o.said) e))
      go o (ways.past a b d e) u = e

  module _ (u : Unrefused (insert l k v).said) where
    past_said : (insert l k v).said ≡ (insert_stored l.params.S l.params.null l.cells l.value l.counts (l.params.hash_of k) k v).said
    past_said = ap (λ (o : Outcome). o.said) (unrefused_past u)

    -- where 1, 2, 3 and 5 don't refuse it, an insert is Full exactly when home, chain and window say so
    pub full_exactly : IsFull (insert l k v).said ↔ FullWhen l.params.S l.cells (l.params.hash_of k) k
    full_exactly =
        rw past_said (stored_full_exactly l.params.S l.params.null l.cells l.value l.counts (l.params.hash_of k) k v)

    -- the same by the positions alone
    pub full_after : IsFull (insert l k v).said ↔ FullAfter l.params.S l.cells (l.params.hash_of k) k
    full_after =
        rw past_said
        (stored_full_after l.params.S l.params.null l.cells l.value l.counts (l.params.hash_of k) k v
        (λ e. u.broken (past_said ∙ e)))

    -- and where it is Full it carries exactly tail + P + 1, wrapped
    pub full_carries : (carried : List ℕ) → (insert l k v).said ≡ refused 4 carried → (w : FullWhen l.params.S l.cells (l.params.hash_of k) k)
        → carried ≡ on w.last (window l.params.S + 1) ∷ []
    full_carries carried e w =
        stored_full_carries l.params.S l.params.null l.cells l.value l.counts (l.params.hash_of k) k v carried (sym past_said ∙ e) w
