-- The rounds of a growing insert end: every move after the first at least doubles the size, so `rounds` never comes to its line
-- for none left, and more rounds than it is given change nothing. Assumes nothing.
use mathlib.Core.Bool.{Bool, true, false}
use mathlib.Core.List.{List}
use mathlib.Core.Path.{◌≡◌, refl, sym, ap, ◌∙◌}
use Prim.Native.Nat.{ℕ, zero, suc, ◌*◌, ◌^◌, ◌≤◌}
use native.Mathlib.Nat.{mul-le-mul_right, lt_of_lt_of_le}
use native.Mathlib.Omega.{arith}
use Rattle.rules.specs.Sizes.{is_size, least_log}
use Rattle.rules.specs.Cells.{Counts}
use Rattle.rules.specs.Answers.{Said, Change}
use Rattle.rules.specs.Growth.{sample}
use Rattle.rules.specs.Moves.{Held, held_after_all}
use Rattle.rules.specs.Growing.{Tries, sizes, Round, GrowOutcome, answered, with_move, round_after, carried_by, is_full, round_tries, after_tries, rounds, most_rounds}
use Rattle.steps.proofs.Sizes.{size_greatest}
use Rattle.laws.specs.Full.{IsFull}
use Rattle.sizing.proofs.Samples.{sample_most}
use Rattle.sizing.proofs.Sizes.{first_size_least}
use Rattle.movelaws.specs.Carried.{IsClear, Carried}
use Rattle.movelaws.proofs.Carrying.{clear_less}
use Rattle.movelaws.proofs.Moved.{moved_carried}
use Rattle.growthlaws.specs.Tries as tried
use Rattle.growthlaws.specs.Tries.{MovedInto, TriesWay}
use Rattle.growthlaws.specs.Rounds as ways
use Rattle.growthlaws.specs.Rounds.{params_of, LiveRound, insert_of, first_of, Enough, first, later, RoundWay}
use Rattle.growthlaws.proofs.Doubling.{full_said, said_full, full_doubles}
use Rattle.growthlaws.proofs.Tries.{one_further, none_further, tries_way, sizes_enough}
use Rattle.growthlaws.proofs.Sizes.{doubled_size}

module _ (C null : ℕ) (hash_of : ℕ → ℕ) (clear : Held) (h k v : ℕ) where
  abbrev said_by : Round → Said
  said_by r = (insert_of null h k v r).said

  abbrev First : Round → ℕ
  First r = first_of null hash_of h k v r

  abbrev Tried : Round → Tries
  Tried r = round_tries C (params_of null hash_of r) clear r (carried_by (said_by r))

  -- the tries of a round have a size for each up to C
  tries_all_ways : (r : Round) → is_size C ≡ true → TriesWay C null r.size r.held r.counts clear (First r) r.spare (Tried r)
  tries_all_ways r size =
      tries_way C null r.size r.held r.counts clear sizes (First r) r.spare (sizes_enough C (First r) size (first_size_least r.size _))

  -- ---- step by step, as the code takes them

  module _ (left : ℕ) (r : Round) where
    -- an insert that is not Full ends the call
    pub round_answers : is_full (insert_of null h k v r).said ≡ false → rounds C null hash_of clear h k v (suc left) r ≡ answered r (insert_of null h k v r)
    unfolding rounds
    round_answers e = rw e

    -- a Full one goes on by its tries
    pub round_tries_lem : is_full (insert_of null h k v r).said ≡ true → (t : Tries)
        → round_tries C (params_of null hash_of r) clear r (carried_by (insert_of null h k v r).said) ≡ t
        → rounds C null hash_of clear h k v (suc left) r
        ≡ after_tries r (insert_of null h k v r).looked clear t t.end (λ n. rounds C null hash_of clear h k v left n)
    unfolding rounds
    round_tries_lem e t q = rw (e, q)

    -- ---- how a round ends

    abbrev Way : GrowOutcome → Type 0
    Way g = RoundWay C null hash_of clear h k v left r g

    module _ (size : is_size C ≡ true) where
      full_way : is_full (said_by r) ≡ true → (t : Tries) → Tried r ≡ t → TriesWay C null r.size r.held r.counts clear (First r) r.spare t
          → Way (rounds C null hash_of clear h k v (suc left) r)
      full_way e t q (tried.untried u x) = ways.untried (full_said _ e) u (round_tries_lem e _ (q ∙ x))
      full_way e t q (tried.all_full u f x) = ways.all_full (full_said _ e) u f (round_tries_lem e _ (q ∙ x))
      full_way e t q (tried.breaks u x) = ways.breaks (full_said _ e) u (round_tries_lem e _ (q ∙ x))
      full_way e t q (tried.moves T c fills m x) = ways.moves (full_said _ e) T c fills m (round_tries_lem e _ (q ∙ x))

      -- where C is an allowed size, a round ends in one of these ways
      pub round_way : RoundWay C null hash_of clear h k v left r (rounds C null hash_of clear h k v (suc left) r)
      round_way = go (is_full (said_by r)) refl
        where
          go : (b : Bool) → is_full (said_by r) ≡ b → Way (rounds C null hash_of clear h k v (suc left) r)
          go false e = ways.answers (λ f. let z = said_full _ f in let y : ◌≡◌ {A = ℕ} 0 1 = cc in absurd (omega arith)) (round_answers e)
          go true e = full_way e (Tried r) refl (tries_all_ways r size)

  -- ---- a move

  module _ (size : is_size C ≡ true) (r : Round) (sized : is_size r.size ≡ true) (T : ℕ) (c : Counts) (fills : List Change)
      (m : MovedInto C null r.size r.held r.counts clear (first_of null hash_of h k v r) T c fills) where
    -- it goes to an allowed size
    pub move_sized : is_size T ≡ true
    move_sized = rw m.size (doubled_size C r.size _ m.before size sized (sample_most (params_of null hash_of r) r.held.cells r.held.value _) (rw m.size at m.most))

    pub move_least : 2 ^ least_log ≤ T
    move_least = omega (arith, first_size_least r.size (sample (params_of null hash_of r) r.held.cells r.held.value (carried_by (said_by r))), m.least)

    -- into a table that holds the live cells of the one before and nothing else
    pub move_carried : IsClear null C clear
        → Carried (params_of null hash_of (round_after r clear T c fills)) r.held r.size (held_after_all fills clear) c
    move_carried n =
        rw m.filled at
        (moved_carried (params_of null hash_of (round_after r clear T c fills)) r.size r.held r.counts clear move_sized (clear_less null C T clear m.most n) c m.ended)

    -- so every taken cell is live
    pub move_live : IsClear null C clear → LiveRound null hash_of (round_after r clear T c fills)
    move_live n = (move_carried n).all_live

    -- every move of a table where every taken cell is live at least doubles the size
    pub move_doubles : LiveRound null hash_of r → IsFull (insert_of null h k v r).said → 2 * r.size ≤ T
    move_doubles a f =
        omega (arith, m.least, full_doubles (params_of null hash_of r) r.held.cells r.held.value r.counts h k v sized a f)

  -- ---- enough rounds

  -- there is one left
  pub enough_one : (r : Round) (left : ℕ) → Enough C null hash_of r left → (n : ℕ) × (left ≡ suc n)
  enough_one r left (first n e l) = (n, e)
  enough_one r zero (later l a e) = absurd (omega (arith, none_further r.size))
  enough_one r (suc n) (later l a e) = (n, refl)

  -- and after a move they are enough still
  pub enough_next : is_size C ≡ true → IsClear null C clear → (r : Round) → is_size r.size ≡ true → (left : ℕ) → Enough C null hash_of r (suc left)
      → IsFull (insert_of null h k v r).said → (T : ℕ) (c : Counts) (fills : List Change)
      → MovedInto C null r.size r.held r.counts clear (first_of null hash_of h k v r) T c fills
      → Enough C null hash_of (round_after r clear T c fills) left
  enough_next size n r sized left (first m e l) f T c fills x =
      let q : left ≡ m = omega arith in
      later x.most (move_live size r sized T c fills x n)
      (rw q (lt_of_lt_of_le l (mul-le-mul_right (2 ^ m) (move_least size r sized T c fills x))))
  enough_next size n r sized left (later l a e) f T c fills x =
      later x.most (move_live size r sized T c fills x n)
      (lt_of_lt_of_le (rw (one_further r.size left) at e) (mul-le-mul_right (2 ^ left) (move_doubles size r sized T c fills x a f)))

  module _ (size : is_size C ≡ true) (none : IsClear null C clear) where
    -- a round whose rest is the same with more rounds left is the same
    same_rest : (left more : ℕ) (r : Round) → is_size r.size ≡ true → Enough C null hash_of r (suc left)
        → ((n : Round) → is_size n.size ≡ true → Enough C null hash_of n left → rounds C null hash_of clear h k v more n ≡ rounds C null hash_of clear h k v left n)
        → rounds C null hash_of clear h k v (suc more) r ≡ rounds C null hash_of clear h k v (suc left) r
    same_rest left more r sized e ih = go (is_full (said_by r)) refl
      where
        by : is_full (said_by r) ≡ true → (t : Tries) → Tried r ≡ t → TriesWay C null r.size r.held r.counts clear (First r) r.spare t
            → rounds C null hash_of clear h k v (suc more) r ≡ rounds C null hash_of clear h k v (suc left) r
        by f t q (tried.untried u x) = round_tries_lem more r f _ (q ∙ x) ∙ sym (round_tries_lem left r f _ (q ∙ x))
        by f t q (tried.all_full u y x) = round_tries_lem more r f _ (q ∙ x) ∙ sym (round_tries_lem left r f _ (q ∙ x))
        by f t q (tried.breaks u x) = round_tries_lem more r f _ (q ∙ x) ∙ sym (round_tries_lem left r f _ (q ∙ x))
        by f t q (tried.moves T c fills m x) =
            round_tries_lem more r f _ (q ∙ x)
            ∙ ap (with_move T) (ih (round_after r clear T c fills) (move_sized size r sized T c fills m) (enough_next size none r sized left e (full_said _ f) T c fills m))
            ∙ sym (round_tries_lem left r f _ (q ∙ x))

        go : (b : Bool) → is_full (said_by r) ≡ b → rounds C null hash_of clear h k v (suc more) r ≡ rounds C null hash_of clear h k v (suc left) r
        go false f = round_answers more r f ∙ sym (round_answers left r f)
        go true f = by f (Tried r) refl (tries_all_ways r size)

    -- more rounds than enough change nothing: the line of `rounds` for none left is never reached
    pub rounds_enough : (left more : ℕ) (r : Round) → is_size r.size ≡ true → left ≤ more → Enough C null hash_of r left
        → rounds C null hash_of clear h k v more r ≡ rounds C null hash_of clear h k v left r
    rounds_enough zero more r sized l e = let q = (enough_one r zero e).1 in absurd (omega arith)
    rounds_enough (suc left) zero r sized l e = absurd (omega arith)
    rounds_enough (suc left) (suc more) r sized l e = same_rest left more r sized e (λ n s x. rounds_enough left more n s (omega arith) x)

  -- ---- the rounds that the growing insert has are enough, whatever table it starts from

  pub start_enough : is_size C ≡ true → (r : Round) → Enough C null hash_of r most_rounds
  start_enough size r = first (suc sizes) refl (let g = size_greatest C size in omega arith)

  -- so more rounds change nothing
  pub more_rounds : is_size C ≡ true → IsClear null C clear → (r : Round) → is_size r.size ≡ true → (more : ℕ) → most_rounds ≤ more
      → rounds C null hash_of clear h k v more r ≡ rounds C null hash_of clear h k v most_rounds r
  more_rounds size empty r sized more u = rounds_enough size empty most_rounds more r sized u (start_enough size r)
