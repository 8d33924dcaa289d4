-- What a growing insert never says: 4 at all, 5 after a move. Assumes nothing.
use mathlib.Core.Bool.{Bool, true, false}
use mathlib.Core.List.{List, []}
use mathlib.Core.Logic.{◌≢◌}
use mathlib.Core.Path.{◌≡◌, refl, sym, ap, ◌∙◌}
use Prim.Native.Nat.{ℕ, zero, suc, ◌*◌, ◌^◌}
use native.Mathlib.Omega.{arith}
use Rattle.rules.specs.Sizes.{is_size}
use Rattle.rules.specs.Cells.{Counts, shape, zero_hash}
use Rattle.rules.specs.Answers.{refused, Change, Outcome}
use Rattle.rules.specs.Moves.{Held, Ended, stop}
use Rattle.rules.specs.Growing.{LentHalves, in_use, TryEnd, moved, no_room, broken, Tries, sizes, Round, GrowOutcome, round_after, carried_by, is_full, round_tries, after_tries, rounds, most_rounds, start, grow}
use Rattle.sound.specs.State.{SoundTable}
use Rattle.sound.proofs.Positions.{size_wraps}
use Rattle.sound.proofs.Meeting.{sound_built}
use Rattle.sound.proofs.Does as does
use Rattle.sound.proofs.Does.{InsertDoes, insert_does}
use Rattle.sound.proofs.Keeping.{zero_passes}
use Rattle.sizing.proofs.Samples.{sample_most}
use Rattle.movelaws.specs.Carried.{IsClear}
use Rattle.movelaws.specs.Movable.{Unbroken, went, full}
use Rattle.movelaws.proofs.Carrying.{clear_less}
use Rattle.movelaws.proofs.Unbroken.{built_movable, move_unbroken}
use Rattle.growthlaws.specs.Tries.{MovedInto, Trouble}
use Rattle.growthlaws.specs.Rounds as ways
use Rattle.growthlaws.specs.Rounds.{params_of, BuiltRound, insert_of, first_of, RoundWay}
use Rattle.growthlaws.specs.Grown as checks
use Rattle.growthlaws.specs.Grown.{Halves, GrowChecked}
use Rattle.growthlaws.proofs.Sizes.{doubled_size}
use Rattle.growthlaws.proofs.Rounds.{round_answers, round_tries_lem, round_way, move_sized, move_carried}
use Rattle.growthlaws.proofs.Checks.{grow_checked, passed_size, passed_c, passed_clear}

-- ---- never 4

module _ (C null : ℕ) (hash_of : ℕ → ℕ) (clear : Held) (h k v : ℕ) (x : List ℕ) where
  -- after Full the tries decide, and they say 5, 6 or go on
  tries_never_4 : (r : Round) (looked : ℕ) (t : Tries) (e : TryEnd) (next : Round → GrowOutcome) → ((n : Round) → (next n).said ≢ refused 4 x) → (after_tries r looked clear t e next).said ≢ refused 4 x
  tries_never_4 r looked t (moved T c fills) next f e = f (round_after r clear T c fills) e
  tries_never_4 r looked t no_room next f e = let n : ◌≡◌ {A = ℕ} 6 4 = cc in omega arith
  tries_never_4 r looked t broken next f e = let n : ◌≡◌ {A = ℕ} 5 4 = cc in omega arith

  rounds_never_4 : (left : ℕ) (r : Round) → (rounds C null hash_of clear h k v left r).said ≢ refused 4 x
  unfolding rounds
  rounds_never_4 zero r = λ e. let n : ◌≡◌ {A = ℕ} 6 4 = cc in omega arith
  rounds_never_4 (suc left) r = go (is_full (insert_of null h k v r).said) refl (rounds_never_4 left)
    where
      go : (b : Bool) → is_full (insert_of null h k v r).said ≡ b → ((n : Round) → (rounds C null hash_of clear h k v left n).said ≢ refused 4 x)
          → (rounds C null hash_of clear h k v (suc left) r).said ≢ refused 4 x
      go true e f =
          let t = round_tries C (params_of null hash_of r) clear r (carried_by (insert_of null h k v r).said) in
          rw (round_tries_lem C null hash_of clear h k v left r e t refl)
          (tries_never_4 r (insert_of null h k v r).looked t t.end (λ n. rounds C null hash_of clear h k v left n) f)
      go false e f = rw (round_answers C null hash_of clear h k v left r e) (λ y. let z = sym e ∙ ap is_full y in let n : ◌≡◌ {A = ℕ} 0 1 = cc in omega arith)

-- the growing insert never answers 4
pub grow_never_4 : (l : LentHalves) (k v : ℕ) (x : List ℕ) → (grow l k v).said ≢ refused 4 x
grow_never_4 l k v x = go _ (grow_checked l k v)
  where
    go : (g : GrowOutcome) → GrowChecked l k v g → g.said ≢ refused 4 x
    go g (checks.by1 a e) y = let n : ◌≡◌ {A = ℕ} 1 4 = cc in omega arith
    go g (checks.by3 a b e) y = let n : ◌≡◌ {A = ℕ} 3 4 = cc in omega arith
    go g (checks.by2 a b d e) y = let n : ◌≡◌ {A = ℕ} 2 4 = cc in omega arith
    go g (checks.past a b d e) y = rounds_never_4 l.C l.null l.hash_of l.clear (l.hash_of k) k v x most_rounds (start l) (rw e at y)

-- ---- 5 only before the first move

module _ (C null : ℕ) (hash_of : ℕ → ℕ) (clear : Held) (h k v : ℕ) (size : is_size C ≡ true) (empty : IsClear null C clear) where
  -- the table that a move made is built, and live counts its live cells, whatever its source
  pub move_built : (r : Round) → is_size r.size ≡ true → (T : ℕ) (c : Counts) (fills : List Change)
      → MovedInto C null r.size r.held r.counts clear (first_of null hash_of h k v r) T c fills
      → BuiltRound null hash_of (round_after r clear T c fills)
  move_built r sized T c fills m =
      let y = move_carried C null hash_of clear h k v size r sized T c fills m empty in
      record { sized = move_sized C null hash_of clear h k v size r sized T c fills m; built = y.built; counted = y.live_counts }

  -- an insert into such a table is refused by Full alone
  pub built_refuses : h ≢ 0 → (r : Round) → BuiltRound null hash_of r → (n : ℕ) (x : List ℕ) → (insert_of null h k v r).said ≡ refused n x → n ≡ 4
  built_refuses some r b n x =
      go _ (insert_does (params_of null hash_of r) r.held.cells r.held.value r.counts b.built b.counted (size_wraps r.size b.sized) h k some v)
    where
      go : (o : Outcome) → InsertDoes (params_of null hash_of r) r.held.cells r.held.value r.counts h k v o → o.said ≡ refused n x → n ≡ 4
      go o (does.fills m i l u y q a) e = let z : ◌≡◌ {A = ℕ} 0 1 = cc in absurd (omega arith)
      go o (does.replaces m i u t d a) e = let z : ◌≡◌ {A = ℕ} 0 1 = cc in absurd (omega arith)
      go o (does.revives m i u t d a) e = let z : ◌≡◌ {A = ℕ} 0 1 = cc in absurd (omega arith)
      go o (does.is_full_lem m q a w y l d) e = cc

  module _ (some : h ≢ 0) (x : List ℕ) where
    -- an insert into it is not Broken, neither by its walk nor by live
    insert_never_5 : (r : Round) → BuiltRound null hash_of r → (insert_of null h k v r).said ≢ refused 5 x
    insert_never_5 r b e = let n = built_refuses some r b 5 x e in omega arith

    -- nor is a move from it
    pub no_trouble : (r : Round) → BuiltRound null hash_of r → Trouble C null r.size r.held r.counts clear (first_of null hash_of h k v r) → ⊥
    no_trouble r b t =
        let T = first_of null hash_of h k v r * 2 ^ t.before in
        go _ (move_unbroken (params_of null hash_of r) r.held r.counts (built_movable (params_of null hash_of r) r.held r.counts b.built b.counted) T clear
        (doubled_size C r.size _ t.before size b.sized (sample_most (params_of null hash_of r) r.held.cells r.held.value _) t.most)
        (clear_less null C T clear t.most empty)) t.ended
      where
        go : (e : Ended) → Unbroken e → e ≡ stop t.number t.carried → ⊥
        go e (went c q) y = let n : ◌≡◌ {A = ℕ} 0 1 = cc in omega arith
        go e (full c q) y = t.other (cc)

    rounds_never_5 : (left : ℕ) (r : Round) → BuiltRound null hash_of r → (rounds C null hash_of clear h k v left r).said ≢ refused 5 x
    unfolding rounds
    rounds_never_5 zero r b = λ e. let n : ◌≡◌ {A = ℕ} 6 5 = cc in omega arith
    rounds_never_5 (suc left) r b = go _ (round_way C null hash_of clear h k v left r size) (rounds_never_5 left)
      where
        go : (g : GrowOutcome) → RoundWay C null hash_of clear h k v left r g → ((n : Round) → BuiltRound null hash_of n → (rounds C null hash_of clear h k v left n).said ≢ refused 5 x) → g.said ≢ refused 5 x
        go g (ways.answers f e) ih y = insert_never_5 r b (rw e at y)
        go g (ways.untried f u e) ih y = let n : ◌≡◌ {A = ℕ} 6 5 = cc in omega arith
        go g (ways.all_full f u z e) ih y = let n : ◌≡◌ {A = ℕ} 6 5 = cc in omega arith
        go g (ways.breaks f t e) ih y = no_trouble r b t
        go g (ways.moves f T c fills m e) ih y = ih (round_after r clear T c fills) (move_built r b.sized T c fills m) (rw e at y)

module _ (l : LentHalves) (f : Halves l) (k v : ℕ) where
  -- the growing insert answers 5 only before its first move, whatever table it starts from
  pub grow_5_before_moves : (x : List ℕ) → (grow l k v).said ≡ refused 5 x → (grow l k v).moves ≡ []
  unfolding rounds
  grow_5_before_moves x = go _ (grow_checked l k v)
    where
      by : shape (in_use l) ≡ 0 → zero_hash (l.hash_of k) ≡ 0
          → (g : GrowOutcome) → RoundWay l.C l.null l.hash_of l.clear (l.hash_of k) k v (suc sizes) (start l) g → g.said ≡ refused 5 x → g.moves ≡ []
      by a d g (ways.answers n e) y = rw e
      by a d g (ways.untried n u e) y = rw e
      by a d g (ways.all_full n u z e) y = rw e
      by a d g (ways.breaks n t e) y = rw e
      by a d g (ways.moves n T c fills m e) y =
          absurd (rounds_never_5 l.C l.null l.hash_of l.clear (l.hash_of k) k v (passed_c l a f) (passed_clear l a f) (zero_passes _ d) x (suc sizes) _
          (move_built l.C l.null l.hash_of l.clear (l.hash_of k) k v (passed_c l a f) (passed_clear l a f) (start l) (passed_size l a) T c fills m) (rw e at y))

      go : (g : GrowOutcome) → GrowChecked l k v g → g.said ≡ refused 5 x → g.moves ≡ []
      go g (checks.by1 a e) y = rw e
      go g (checks.by3 a b e) y = rw e
      go g (checks.by2 a b d e) y = rw e
      go g (checks.past a b d e) y =
          rw e (by a d _ (round_way l.C l.null l.hash_of l.clear (l.hash_of k) k v (suc sizes) (start l) (passed_c l a f)) (rw e at y))

  -- and never where its table is sound
  pub sound_never_5 : SoundTable (in_use l) → (x : List ℕ) → (grow l k v).said ≢ refused 5 x
  sound_never_5 s x = go _ (grow_checked l k v)
    where
      go : (g : GrowOutcome) → GrowChecked l k v g → g.said ≢ refused 5 x
      go g (checks.by1 a e) y = let n : ◌≡◌ {A = ℕ} 1 5 = cc in omega arith
      go g (checks.by3 a b e) y = let n : ◌≡◌ {A = ℕ} 3 5 = cc in omega arith
      go g (checks.by2 a b d e) y = let n : ◌≡◌ {A = ℕ} 2 5 = cc in omega arith
      go g (checks.past a b d e) y =
          rounds_never_5 l.C l.null l.hash_of l.clear (l.hash_of k) k v (passed_c l a f) (passed_clear l a f) (zero_passes _ d) x most_rounds (start l)
          (record {
            sized = passed_size l a;
            built = sound_built (in_use l).params l.used.cells l.used.value l.counts s;
            counted = s.live_counts;
          })
          (rw e at y)
