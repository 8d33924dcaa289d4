-- What a growing insert leaves of the two halves. Assumes nothing.
use mathlib.Core.Bool.{Bool, true, false}
use mathlib.Core.List.{List, []}
use mathlib.Core.Logic.{◌≢◌}
use mathlib.Core.Path.{◌≡◌, refl, sym, ap, ◌∙◌}
use Prim.Native.Nat.{ℕ, zero, suc, ◌≤◌, ◌<◌}
use native.Mathlib.Decide.{dec_le}
use native.Mathlib.Omega.{arith}
use Rattle.rules.specs.Sizes.{is_size}
use Rattle.rules.specs.Cells.{Cells, Counts}
use Rattle.rules.specs.Answers.{Said, refused, Change, Outcome}
use Rattle.rules.specs.Calls.{insert}
use Rattle.rules.specs.Moves.{Held, held_after, Became, stays, cleared}
use Rattle.rules.specs.Growing.{LentHalves, in_use, sizes, Round, GrowOutcome, answered, refused_at, round_after, is_full, rounds, most_rounds, start, grow}
use Rattle.laws.specs.Ways as inserted
use Rattle.laws.specs.Ways.{Added, room, over, InsertWay}
use Rattle.laws.specs.Full.{IsFull}
use Rattle.laws.proofs.Ways.{insert_way}
use Rattle.laws.proofs.Refusals.{stored_refused_leaves}
use Rattle.growthlaws.specs.Rounds as ways
use Rattle.growthlaws.specs.Rounds.{insert_of, RoundWay}
use Rattle.growthlaws.specs.Grown.{Halves, first_try, AsInsert, TableLeft}
use Rattle.growthlaws.proofs.Doubling.{full_said}
use Rattle.growthlaws.proofs.Tries.{grows}
use Rattle.growthlaws.proofs.Rounds.{round_answers, round_way}
use Rattle.growthlaws.proofs.Never.{grow_5_before_moves}
use Rattle.growthlaws.proofs.Checks.{Begun, checked, past, begun, passed_c}

-- ---- an insert past its checks is refused under 4 and 5 alone

module _ (n : ℕ) (x : List ℕ) where
  added_refuses : {S : ℕ} {c : Counts} {m : ℕ} (s : Said) {change : Change} {o : Outcome} → s ≢ refused n x → Added S c m s change o → o.said ≡ refused n x
      → (4 ≤ n) × (n ≤ 5)
  added_refuses s d (room l e) y = absurd (d (ap (λ (o : Outcome). o.said) (sym e) ∙ y))
  added_refuses s d (over l e) y = let q : 5 ≡ n = cc in (omega arith, omega arith)

  stored_refuses : {S null : ℕ} {cs : Cells} {value : ℕ → ℕ} {c : Counts} {h k v : ℕ} {o : Outcome} → InsertWay S null cs value c h k v o → o.said ≡ refused n x
      → (4 ≤ n) × (n ≤ 5)
  stored_refuses (inserted.homed a b) y = added_refuses _ (λ e. let q : ◌≡◌ {A = ℕ} 0 1 = cc in omega arith) b y
  stored_refuses (inserted.replaces q a b d e) y = let q : ◌≡◌ {A = ℕ} 0 1 = cc in absurd (omega arith)
  stored_refuses (inserted.revives q a b d e) y = added_refuses _ (λ e. let q : ◌≡◌ {A = ℕ} 0 1 = cc in omega arith) e y
  stored_refuses (inserted.linked q d a b z e) y = added_refuses _ (λ e. let q : ◌≡◌ {A = ℕ} 0 1 = cc in omega arith) e y
  stored_refuses (inserted.full q a b z e) y = let q : 4 ≡ n = cc in (omega arith, omega arith)
  stored_refuses (inserted.endless a b e) y = let q : 5 ≡ n = cc in (omega arith, omega arith)

-- ---- the spare half in rounds

module _ (C null : ℕ) (hash_of : ℕ → ℕ) (clear : Held) (h k v : ℕ) (size : is_size C ≡ true) where
  -- once clear it stays clear, whatever the answer: an old half is cleared whole
  rounds_clear : (left : ℕ) (r : Round) → r.spare ≡ cleared [] → (rounds C null hash_of clear h k v left r).spare ≡ cleared []
  unfolding rounds
  rounds_clear zero r s = s
  rounds_clear (suc left) r s = go _ (round_way C null hash_of clear h k v left r size) (rounds_clear left)
    where
      go : (g : GrowOutcome) → RoundWay C null hash_of clear h k v left r g
          → ((n : Round) → n.spare ≡ cleared [] → (rounds C null hash_of clear h k v left n).spare ≡ cleared [])
          → g.spare ≡ cleared []
      go g (ways.answers f e) ih = rw e s
      go g (ways.untried f u e) ih = rw e s
      go g (ways.all_full f u z e) ih = rw e
      go g (ways.breaks f t e) ih = rw e
      go g (ways.moves f T c fills m e) ih = rw e (ih (round_after r clear T c fills) refl)

  -- rounds are not refused under 1, 2 or 3
  rounds_past : (n : ℕ) (x : List ℕ) → n ≤ 3 → (left : ℕ) (r : Round) → (rounds C null hash_of clear h k v left r).said ≢ refused n x
  unfolding rounds
  rounds_past n x u zero r = λ y. let q : 6 ≡ n = cc in omega arith
  rounds_past n x u (suc left) r = go _ (round_way C null hash_of clear h k v left r size) (rounds_past n x u left)
    where
      go : (g : GrowOutcome) → RoundWay C null hash_of clear h k v left r g → ((m : Round) → (rounds C null hash_of clear h k v left m).said ≢ refused n x) → g.said ≢ refused n x
      go g (ways.answers f e) ih y =
          let q = stored_refuses n x (insert_way r.size null r.held.cells r.held.value r.counts h k v) (rw e at y) in
          omega (arith, q.0)
      go g (ways.untried f w e) ih y = let q : 6 ≡ n = cc in omega arith
      go g (ways.all_full f w z e) ih y = let q : 6 ≡ n = cc in omega arith
      go g (ways.breaks f t e) ih y = let q : 5 ≡ n = cc in omega arith
      go g (ways.moves f T c fills m e) ih y = ih (round_after r clear T c fills) (rw e at y)

-- ---- no Full

-- "With no Full the spare half is not touched": the call is the fixed insert
pub no_full_as_insert : (l : LentHalves) (k v : ℕ) → (IsFull (insert (in_use l) k v).said → ⊥) → AsInsert l (insert (in_use l) k v) (grow l k v)
no_full_as_insert l k v n = go _ _ (begun l k v) n
  where
    same : (g : GrowOutcome) → g ≡ answered (start l) (insert_of l.null (l.hash_of k) k v (start l)) → AsInsert l (insert_of l.null (l.hash_of k) k v (start l)) g
    same g e = rw e (record { said = refl; looked = refl; counts = refl; size = refl; half = refl; used = refl; spare = refl; moves = refl })

    full_or_not : (is_full (insert_of l.null (l.hash_of k) k v (start l)).said ≡ true → ⊥) → is_full (insert_of l.null (l.hash_of k) k v (start l)).said ≡ false
    full_or_not = by (is_full (insert_of l.null (l.hash_of k) k v (start l)).said)
      where
        by : (b : Bool) → (b ≡ true → ⊥) → b ≡ false
        by true f = absurd (f refl)
        by false f = refl

    go : (o : Outcome) (g : GrowOutcome) → Begun l k v o g → (IsFull o.said → ⊥) → AsInsert l o g
    go o g (checked m u e q) n = rw (e, q) (record { said = refl; looked = refl; counts = refl; size = refl; half = refl; used = refl; spare = refl; moves = refl })
    go o g (past a b d e q) n =
        rw e
        (same g
        (q
        ∙ round_answers l.C l.null l.hash_of l.clear (l.hash_of k) k v (suc sizes) (start l)
        (full_or_not (λ f. n (rw e (full_said _ f))))))

-- ---- after Full

module _ (l : LentHalves) (f : Halves l) (k v : ℕ) where
  module _ (full : IsFull (insert (in_use l) k v).said) where
    -- NoRoom with no try leaves the spare half, and the table
    pub untried_leaves : l.C < first_try l k v → grow l k v ≡ refused_at (start l) 6 (insert (in_use l) k v).looked (stays [])
    untried_leaves u = go _ _ (begun l k v) full
      where
        by : (g : GrowOutcome) → RoundWay l.C l.null l.hash_of l.clear (l.hash_of k) k v (suc sizes) (start l) g → IsFull (insert_of l.null (l.hash_of k) k v (start l)).said
            → g ≡ refused_at (start l) 6 (insert_of l.null (l.hash_of k) k v (start l)).looked (stays [])
        by g (ways.answers n e) y = absurd (n y)
        by g (ways.untried n w e) y = e
        by g (ways.all_full n w z e) y = absurd (omega arith)
        by g (ways.breaks n t e) y = absurd (omega (arith, t.most, grows (first_try l k v) t.before))
        by g (ways.moves n T c fills m e) y = absurd (omega (arith, m.least, m.most))

        go : (o : Outcome) (g : GrowOutcome) → Begun l k v o g → IsFull o.said → g ≡ refused_at (start l) 6 o.looked (stays [])
        go o g (checked m w e q) y = let z : m ≡ 4 = cc y.says in absurd (omega arith)
        go o g (past a b d e q) y =
            rw (e, q) (by _ (round_way l.C l.null l.hash_of l.clear (l.hash_of k) k v (suc sizes) (start l) (passed_c l a f)) (rw e at y))

    -- after any try it is cleared whole, whatever the answer
    pub tried_clears : first_try l k v ≤ l.C → (grow l k v).spare ≡ cleared []
    tried_clears u = go _ _ (begun l k v) full
      where
        by : (g : GrowOutcome) → is_size l.C ≡ true → RoundWay l.C l.null l.hash_of l.clear (l.hash_of k) k v (suc sizes) (start l) g → IsFull (insert_of l.null (l.hash_of k) k v (start l)).said
            → g.spare ≡ cleared []
        by g s (ways.answers n e) y = absurd (n y)
        by g s (ways.untried n w e) y = absurd (omega arith)
        by g s (ways.all_full n w z e) y = rw e
        by g s (ways.breaks n t e) y = rw e
        by g s (ways.moves n T c fills m e) y =
            rw e (rounds_clear l.C l.null l.hash_of l.clear (l.hash_of k) k v s (suc sizes) (round_after (start l) l.clear T c fills) refl)

        go : (o : Outcome) (g : GrowOutcome) → Begun l k v o g → IsFull o.said → g.spare ≡ cleared []
        go o g (checked m w e q) y = let z : m ≡ 4 = cc y.says in absurd (omega arith)
        go o g (past a b d e q) y =
            rw q (by _ (passed_c l a f) (round_way l.C l.null l.hash_of l.clear (l.hash_of k) k v (suc sizes) (start l) (passed_c l a f)) (rw e at y))

  -- ---- refusals

  -- a refusal under 1, 2 or 3 leaves both halves and the record, with nothing looked at
  pub checked_leaves : (n : ℕ) (x : List ℕ) → n ≤ 3 → (grow l k v).said ≡ refused n x → grow l k v ≡ refused_at (start l) n 0 (stays [])
  checked_leaves n x u = go _ _ (begun l k v)
    where
      go : (o : Outcome) (g : GrowOutcome) → Begun l k v o g → g.said ≡ refused n x → g ≡ refused_at (start l) n 0 (stays [])
      go o g (checked m w e q) y = let z : m ≡ n = cc in rw (← z) q
      go o g (past a b d e q) y =
          absurd (rounds_past l.C l.null l.hash_of l.clear (l.hash_of k) k v (passed_c l a f) n x u most_rounds (start l) (rw q at y))

  -- any refusal with no move leaves table and record: so 5 does, and NoRoom before a move
  pub refused_leaves : (n : ℕ) (x : List ℕ) → (grow l k v).said ≡ refused n x → (grow l k v).moves ≡ [] → TableLeft l (grow l k v)
  refused_leaves n x = go _ _ (begun l k v)
    where
      at : (g : GrowOutcome) (m looked : ℕ) (s : Became) → g ≡ refused_at (start l) m looked s → TableLeft l g
      at g m looked s e = rw e (record { used = refl; counts = refl; size = refl; half = refl })

      by : (g : GrowOutcome) → RoundWay l.C l.null l.hash_of l.clear (l.hash_of k) k v (suc sizes) (start l) g → g.said ≡ refused n x → g.moves ≡ [] → TableLeft l g
      by g (ways.answers w e) y z =
          let r = stored_refused_leaves n x l.size l.null l.used.cells l.used.value l.counts (l.hash_of k) k v (rw e at y) in
          rw e (record { used = ap (λ (c : Change). held_after c l.used) r.change; counts = r.counts; size = refl; half = refl })
      by g (ways.untried w u e) y z = at g 6 _ _ e
      by g (ways.all_full w u t e) y z = at g 6 _ _ e
      by g (ways.breaks w t e) y z = at g 5 _ _ e
      by g (ways.moves w T c fills m e) y z = let q : ◌≡◌ {A = ℕ} 0 1 = cc in absurd (omega arith)

      go : (o : Outcome) (g : GrowOutcome) → Begun l k v o g → g.said ≡ refused n x → g.moves ≡ [] → TableLeft l g
      go o g (checked m w e q) y z = at g m 0 _ q
      go o g (past a b d e q) y z =
          rw q
          (by _ (round_way l.C l.null l.hash_of l.clear (l.hash_of k) k v (suc sizes) (start l) (passed_c l a f)) (rw q at y) (rw q at z))

  -- NoRoom is said only after Full: with no try the spare half is left, by `untried_leaves`, else cleared, by `tried_clears`
  pub no_room_full : (x : List ℕ) → (grow l k v).said ≡ refused 6 x → IsFull (insert (in_use l) k v).said
  no_room_full x = go _ _ (begun l k v)
    where
      by : (g : GrowOutcome) → RoundWay l.C l.null l.hash_of l.clear (l.hash_of k) k v (suc sizes) (start l) g → g.said ≡ refused 6 x
          → IsFull (insert_of l.null (l.hash_of k) k v (start l)).said
      by g (ways.answers w e) y =
          let q = stored_refuses 6 x (insert_way l.size l.null l.used.cells l.used.value l.counts (l.hash_of k) k v) (rw e at y) in
          absurd (omega (arith, q.1))
      by g (ways.untried w u e) y = w
      by g (ways.all_full w u t e) y = w
      by g (ways.breaks w t e) y = w
      by g (ways.moves w T c fills m e) y = w

      go : (o : Outcome) (g : GrowOutcome) → Begun l k v o g → g.said ≡ refused 6 x → IsFull o.said
      go o g (checked m w e q) y = let z : m ≡ 6 = cc in absurd (omega arith)
      go o g (past a b d e q) y =
          rw e (by _ (round_way l.C l.null l.hash_of l.clear (l.hash_of k) k v (suc sizes) (start l) (passed_c l a f)) (rw q at y))

  -- under 5 table and record stay; after Full the spare half is cleared whole, with no Full it is not touched
  pub broken_leaves : (x : List ℕ) → (grow l k v).said ≡ refused 5 x
      → TableLeft l (grow l k v) × (IsFull (insert (in_use l) k v).said → (grow l k v).spare ≡ cleared []) × ((IsFull (insert (in_use l) k v).said → ⊥) → (grow l k v).spare ≡ stays [])
  broken_leaves x e = (
    refused_leaves 5 x e (grow_5_before_moves l f k v x e),
    λ y. by y (dec_le (first_try l k v) l.C),
    λ y. (no_full_as_insert l k v y).spare,
  )
    where
      by : IsFull (insert (in_use l) k v).said → Dec (first_try l k v ≤ l.C) → (grow l k v).spare ≡ cleared []
      by y (yes u) = tried_clears y u
      by y (no u) = let q = untried_leaves y (omega arith) in let z : ◌≡◌ {A = ℕ} 6 5 = cc in absurd (omega arith)
