-- Worked example 8 of document 01, its second sentence, of every sound table: with C = 8, live 4 is moved and 5 is NoRoom. Assumes
-- nothing.
use mathlib.Core.Bool.{true}
use mathlib.Core.List.{List, [], ◌∷◌}
use mathlib.Core.Logic.{◌≢◌}
use mathlib.Core.Path.{◌≡◌, sym, ap, ap₂, ◌∙◌}
use Prim.Native.Nat.{ℕ, suc, ◌*◌, ◌^◌}
use native.Mathlib.Omega.{arith}
use Rattle.rules.specs.Sizes.{is_size}
use Rattle.rules.specs.Cells.{Counts, shape}
use Rattle.rules.specs.Answers.{new, refused, Change, Outcome}
use Rattle.rules.specs.Calls.{insert}
use Rattle.rules.specs.Growth.{sampled, first_size}
use Rattle.rules.specs.Moves.{held_after_all, stays}
use Rattle.rules.specs.Growing.{LentHalves, in_use, sizes, Round, GrowOutcome, carried_by, refused_at, round_after, start, grow}
use Rattle.steps.proofs.Sizes.{size_least}
use Rattle.laws.specs.Full.{IsFull}
use Rattle.sound.specs.State.{SoundTable, Acceptable}
use Rattle.sound.proofs.Positions.{size_wraps}
use Rattle.sound.proofs.Meeting.{sound_built}
use Rattle.sound.proofs.Keeping.{zero_passes}
use Rattle.sound.proofs.Room.{built_room_exactly}
use Rattle.sound.proofs.Empties.{all_live_and_empties}
use Rattle.sizing.proofs.Samples.{sample_small}
use Rattle.sizing.proofs.Examples.{sizes_of_8}
use Rattle.movelaws.proofs.Carrying.{clear_less}
use Rattle.movelaws.proofs.Unbroken.{sound_movable}
use Rattle.movelaws.proofs.Room.{move_succeeds}
use Rattle.growthlaws.specs.Tries.{FullAt, MovedInto}
use Rattle.growthlaws.specs.Rounds as ways
use Rattle.growthlaws.specs.Rounds.{params_of, BuiltRound, insert_of, RoundWay}
use Rattle.growthlaws.specs.Grown.{Halves, first_try}
use Rattle.growthlaws.proofs.Tries.{none_further}
use Rattle.growthlaws.proofs.Rounds.{round_way, move_carried}
use Rattle.growthlaws.proofs.Checks.{Begun, checked, past, begun, passed_size, passed_most, passed_c, passed_clear}
use Rattle.growthlaws.proofs.Never.{move_built, built_refuses, no_trouble}
use Rattle.growthlaws.proofs.Left.{untried_leaves}
use Rattle.growthlaws.proofs.Lookups.{moved_says_new}

shared : (S n m x : ℕ) → S ≡ 8 → S * n ≡ sampled * m → m ≡ x → n ≡ 8 * x
shared S n m x e q y = let z : 8 * n ≡ sampled * m = sym (ap (λ (i : ℕ). i * n) e) ∙ q in omega arith

module _ (l : LentHalves) (f : Halves l) (s : SoundTable (in_use l)) (k v : ℕ) (C : l.C ≡ 8) (full : IsFull (insert (in_use l) k v).said) where
  passes : shape (in_use l) ≡ 0
  passes = go _ _ (begun l k v) full
    where
      go : (o : Outcome) (g : GrowOutcome) → Begun l k v o g → IsFull o.said → shape (in_use l) ≡ 0
      go o g (checked m w e q) y = let z : m ≡ 4 = cc y.says in absurd (omega arith)
      go o g (past a b d e q) y = a

  -- the table is of 8 cells too
  eight : l.size ≡ 8
  eight = omega (arith, passed_most l passes, size_least l.size (passed_size l passes), C)

  -- the first size, by live
  first : (n : ℕ) → l.counts.live ≡ n → first_try l k v ≡ first_size 8 (8 * n)
  first n e =
      let c = carried_by (insert_of l.null (l.hash_of k) k v (start l)).said in
      let q = sample_small (in_use l).params l.used.cells l.used.value c (passed_size l passes) (omega (arith, eight)) in
      ap₂ first_size eight (shared l.size _ _ n eight q (sym s.live_counts ∙ e))

  -- "5 is NoRoom": nothing is tried
  pub eight_no_room : l.counts.live ≡ 5 → grow l k v ≡ refused_at (start l) 6 (insert (in_use l) k v).looked (stays [])
  eight_no_room e = untried_leaves l f k v full (rw (C, first 5 e, sizes_of_8.2) (omega arith))

  module _ (e : l.counts.live ≡ 4) where
    least : first_try l k v ≡ 8
    least = first 4 e ∙ sizes_of_8.1

    allowed : is_size l.C ≡ true
    allowed = passed_c l passes f

    module _ (some : l.hash_of k ≢ 0) where
      abbrev next : (T : ℕ) → Counts → List Change → Round
      next T c fills = round_after (start l) l.clear T c fills

      -- the move is made
      not_full : FullAt l.null l.size l.used l.counts l.clear (first_try l k v * 2 ^ 0) → ⊥
      not_full n =
          let T = first_try l k v * 2 ^ 0 in
          let t : T ≡ 8 = none_further (first_try l k v) ∙ least in
          let m = move_succeeds (in_use l).params l.used l.counts (sound_movable (in_use l).params l.used l.counts s) T l.clear (rw (t ∙ sym eight) (passed_size l passes))
          (clear_less l.null l.C T l.clear (omega (arith, t, C)) (passed_clear l passes f)) (omega (arith, t, e)) in
          let z : ◌≡◌ {A = ℕ} 0 1 = cc (n.ended, m.1) in
          omega arith

      module _ (T : ℕ) (c : Counts) (fills : List Change) (m : MovedInto l.C l.null l.size l.used l.counts l.clear (first_try l k v) T c fills) where
        made : BuiltRound l.null l.hash_of (next T c fills)
        made = move_built l.C l.null l.hash_of l.clear (l.hash_of k) k v allowed (passed_clear l passes f) (start l) (passed_size l passes) T c fills m

        -- in the table that it makes there is room
        room : IsFull (insert_of l.null (l.hash_of k) k v (next T c fills)).said → ⊥
        room y =
            let p = params_of l.null l.hash_of (next T c fills) in
            let h = held_after_all fills l.clear in
            let t = move_carried l.C l.null l.hash_of l.clear (l.hash_of k) k v allowed (start l) (passed_size l passes) T c fills m (passed_clear l passes f) in
            let n = ((built_room_exactly p h.cells h.value t.built (size_wraps T made.sized) (l.hash_of k) k some c t.live_counts (omega (arith, m.most, C)) v).0 y).1 in
            let o : c.live ≡ l.counts.live = t.total ∙ sym s.live_counts in
            omega (arith, n, all_live_and_empties p h.cells h.value c t.all_live t.live_counts, o, e, m.least, least)

        -- so the second round ends the call
        ends : (g : GrowOutcome) → RoundWay l.C l.null l.hash_of l.clear (l.hash_of k) k v sizes (next T c fills) g
            → (g.moves ≡ []) × ((x : List ℕ) → g.said ≢ refused 6 x)
        ends g (ways.answers n q) =
            (rw q, rw q (λ x y. let z = built_refuses l.C l.null l.hash_of l.clear (l.hash_of k) k v allowed (passed_clear l passes f) some (next T c fills) made 6 x y in omega arith))
        ends g (ways.untried n u q) = absurd (room n)
        ends g (ways.all_full n u z q) = absurd (room n)
        ends g (ways.breaks n t q) = absurd (room n)
        ends g (ways.moves n U d fs w q) = absurd (room n)

      goes : (g : GrowOutcome) → RoundWay l.C l.null l.hash_of l.clear (l.hash_of k) k v (suc sizes) (start l) g
          → IsFull (insert_of l.null (l.hash_of k) k v (start l)).said
          → (g.moves ≡ 8 ∷ []) × ((x : List ℕ) → g.said ≢ refused 6 x)
      goes g (ways.answers n q) y = absurd (n y)
      goes g (ways.untried n u q) y = absurd (omega (arith, least, C))
      goes g (ways.all_full n u z q) y = absurd (not_full (z 0 (omega (arith, none_further (first_try l k v)))))
      goes g (ways.breaks n t q) y =
          absurd (no_trouble l.C l.null l.hash_of l.clear (l.hash_of k) k v allowed (passed_clear l passes f) some [] (start l)
          (record {
            sized = passed_size l passes;
            built = sound_built (in_use l).params l.used.cells l.used.value l.counts s;
            counted = s.live_counts;
          })
          t)
      goes g (ways.moves n T c fills m q) y =
          let w = ends T c fills m _ (round_way l.C l.null l.hash_of l.clear (l.hash_of k) k v sizes (next T c fills) allowed) in
          let z : T ≡ 8 = omega (arith, m.least, m.most, least, C) in
          (ap (λ (g : GrowOutcome). g.moves) q ∙ ap₂ (λ (x : ℕ) (l : List ℕ). x ∷ l) z w.0, rw q w.1)

  -- "live 4 is moved": once, to 8 cells, where the insert is New
  pub eight_moved : l.counts.live ≡ 4 → ((grow l k v).moves ≡ 8 ∷ []) × ((grow l k v).said ≡ new)
  eight_moved e = by (begun l k v)
    where
      go : (o : Outcome) (g : GrowOutcome) → Begun l k v o g → IsFull o.said → (g.moves ≡ 8 ∷ []) × ((x : List ℕ) → g.said ≢ refused 6 x)
      go o g (checked m w x q) y = let z : m ≡ 4 = cc y.says in absurd (omega arith)
      go o g (past a b d x q) y =
          rw q
          (goes e (zero_passes _ d) _ (round_way l.C l.null l.hash_of l.clear (l.hash_of k) k v (suc sizes) (start l) (passed_c l passes f)) (rw x at y))

      accepted : (o : Outcome) (g : GrowOutcome) → Begun l k v o g → IsFull o.said → Acceptable (in_use l) k v
      accepted o g (checked m w x q) y = let z : m ≡ 4 = cc y.says in absurd (omega arith)
      accepted o g (past a b d x q) y = record { shaped = a; value = b; hash = d }

      by : Begun l k v (insert (in_use l) k v) (grow l k v) → ((grow l k v).moves ≡ 8 ∷ []) × ((grow l k v).said ≡ new)
      by w =
          let y = go _ _ w full in
          (y.0, moved_says_new l f s k v (accepted _ _ w full) y.1 (λ z. let n : ◌≡◌ {A = ℕ} 0 1 = cc y.0 in omega arith))
