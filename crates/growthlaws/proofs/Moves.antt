-- The moves of one growing insert: every later one at least doubles the size, so they are at most as many as there are sizes; the
-- record says where the last one put the table. For unsound tables too. Assumes nothing.
use mathlib.Core.Bool.{Bool, true, ◌||◌, or-true, or-false}
use mathlib.Core.List.{List, [], ◌∷◌}
use mathlib.Core.Path.{◌≡◌, refl, sym, ap, ◌∙◌}
use Prim.Native.Nat.{ℕ, zero, suc, ◌+◌, ◌-◌, ◌*◌, ◌^◌, ◌≤◌}
use native.Mathlib.Nat.{le_trans, mul-le-mul_right}
use native.Mathlib.Omega.{arith}
use lib.ListN.{length}
use lib.Pow.{pow-add}
use Rattle.rules.specs.Sizes.{is_size, least_log, greatest_log}
use Rattle.rules.specs.Answers.{Change}
use Rattle.rules.specs.Moves.{Held, Became, stays, cleared}
use Rattle.rules.specs.Growing.{other_half, LentHalves, Round, GrowOutcome, and_then, with_move, round_after, rounds, most_rounds, start, grow}
use Rattle.steps.proofs.Sizes.{size_least, size_greatest, log_least}
use Rattle.laws.specs.Full.{last_from}
use Rattle.movelaws.specs.Carried.{IsClear}
use Rattle.growthlaws.specs.Rounds as ways
use Rattle.growthlaws.specs.Rounds.{LiveRound, insert_of, RoundWay}
use Rattle.growthlaws.specs.Grown as checks
use Rattle.growthlaws.specs.Grown.{Halves, GrowChecked, Doubles, LaterDouble, Within, is_cleared, any_move, half_after}
use Rattle.growthlaws.proofs.Tries.{one_further, none_further}
use Rattle.growthlaws.proofs.Rounds.{round_way, move_sized, move_live, move_doubles}
use Rattle.growthlaws.proofs.Checks.{grow_checked, passed_size, passed_c, passed_clear}

-- ---- lists of sizes

-- sizes that double from T on, each at most C: T doubled so often is at most C
reach : (C T : ℕ) (l : List ℕ) → T ≤ C → Doubles T l → Within C l → T * 2 ^ length l ≤ C
reach C T [] u d w = rw (none_further T) u
reach C T (U ∷ l) u d w =
    let e : 2 * T ≤ U = omega (arith, d.0) in
    rw (one_further T (length l)) (le_trans (mul-le-mul_right (2 ^ length l) e) (reach C U l w.1 d.1 w.2))

-- so after the first there are at most as many as there are sizes above the least
pub few : (C : ℕ) (l : List ℕ) → is_size C ≡ true → LaterDouble l → Within C l → length l ≤ suc (greatest_log - least_log)
few C [] s d w = omega arith
few C (T ∷ l) s d w =
    let a = mul-le-mul_right (2 ^ length l) (size_least T w.0) in
    let b : 2 ^ (least_log + length l) ≤ 2 ^ greatest_log = rw (pow-add 2 least_log (length l)) (le_trans a (le_trans (reach C T l w.1 d w.2) (size_greatest C s))) in
    omega (arith, log_least (least_log + length l) greatest_log b)

-- ---- the moves of rounds

-- what the moves from a round on are, and where they lead
record Goes (C null : ℕ) (hash_of : ℕ → ℕ) (r : Round) (g : GrowOutcome) : Type 0 where
  within : Within C g.moves
  doubling : LiveRound null hash_of r → Doubles r.size g.moves
  later : LaterDouble g.moves
  size : g.size ≡ last_from r.size g.moves
  half : g.half ≡ half_after g.moves r.half
  used : is_cleared g.used ≡ is_cleared r.used || any_move g.moves

then_cleared : (u : Became) (c : Change) → is_cleared (and_then u c) ≡ is_cleared u
then_cleared (stays l) c = refl
then_cleared (cleared l) c = refl

module _ (C null : ℕ) (hash_of : ℕ → ℕ) where
  -- none
  stays_put : (r : Round) (g : GrowOutcome) → g.moves ≡ [] → g.size ≡ r.size → g.half ≡ r.half → is_cleared g.used ≡ is_cleared r.used
      → Goes C null hash_of r g
  stays_put r g e s f u =
      record {
        within = rw e tt;
        doubling = λ a. rw e tt;
        later = rw e tt;
        size = rw e s;
        half = rw e f;
        used = u ∙ rw e (sym (or-false (is_cleared r.used)));
      }

  -- one, and those of the rounds after it
  goes_on : (r n : Round) (g : GrowOutcome) → n.half ≡ other_half r.half → is_cleared n.used ≡ true → is_size n.size ≡ true → n.size ≤ C → LiveRound null hash_of n
      → (LiveRound null hash_of r → 2 * r.size ≤ n.size) → Goes C null hash_of n g → Goes C null hash_of r (with_move n.size g)
  goes_on r n g f c s u a d y =
      record {
        within = (s, u, y.within);
        doubling = λ b. (omega (arith, d b), y.doubling a);
        later = y.doubling a;
        size = y.size;
        half = y.half ∙ ap (half_after g.moves) f;
        used = y.used ∙ ap (λ (b : Bool). b || any_move g.moves) c ∙ sym (or-true (is_cleared r.used));
      }

  module _ (clear : Held) (h k v : ℕ) (allowed : is_size C ≡ true) (empty : IsClear null C clear) where
    rounds_go : (left : ℕ) (r : Round) → is_size r.size ≡ true → Goes C null hash_of r (rounds C null hash_of clear h k v left r)
    unfolding rounds
    rounds_go zero r sized = stays_put r _ refl refl refl refl
    rounds_go (suc left) r sized = by _ (round_way C null hash_of clear h k v left r allowed) (rounds_go left)
      where
        by : (g : GrowOutcome) → RoundWay C null hash_of clear h k v left r g
            → ((n : Round) → is_size n.size ≡ true → Goes C null hash_of n (rounds C null hash_of clear h k v left n))
            → Goes C null hash_of r g
        by g (ways.answers f e) ih = stays_put r g (rw e) (rw e) (rw e) (rw e (then_cleared r.used (insert_of null h k v r).change))
        by g (ways.untried f u e) ih = stays_put r g (rw e) (rw e) (rw e) (rw e)
        by g (ways.all_full f u z e) ih = stays_put r g (rw e) (rw e) (rw e) (rw e)
        by g (ways.breaks f t e) ih = stays_put r g (rw e) (rw e) (rw e) (rw e)
        by g (ways.moves f T c fills m e) ih =
            let s = move_sized C null hash_of clear h k v allowed r sized T c fills m in
            rw e
            (goes_on r (round_after r clear T c fills) (rounds C null hash_of clear h k v left (round_after r clear T c fills)) refl refl s m.most
            (move_live C null hash_of clear h k v allowed r sized T c fills m empty) (λ a. move_doubles C null hash_of clear h k v allowed r sized T c fills m a f)
            (ih (round_after r clear T c fills) s))

-- ---- of a growing insert

module _ (l : LentHalves) (f : Halves l) (k v : ℕ) where
  goes : Goes l.C l.null l.hash_of (start l) (grow l k v)
  goes = go _ (grow_checked l k v)
    where
      go : (g : GrowOutcome) → GrowChecked l k v g → Goes l.C l.null l.hash_of (start l) g
      go g (checks.by1 a e) = stays_put l.C l.null l.hash_of (start l) g (rw e) (rw e) (rw e) (rw e)
      go g (checks.by3 a b e) = stays_put l.C l.null l.hash_of (start l) g (rw e) (rw e) (rw e) (rw e)
      go g (checks.by2 a b d e) = stays_put l.C l.null l.hash_of (start l) g (rw e) (rw e) (rw e) (rw e)
      go g (checks.past a b d e) =
          rw e (rounds_go l.C l.null l.hash_of l.clear (l.hash_of k) k v (passed_c l a f) (passed_clear l a f) most_rounds (start l) (passed_size l a))

  -- "Every later move in the same call at least doubles it": the size, of a sound table or not
  pub later_moves_double : LaterDouble (grow l k v).moves
  later_moves_double = goes.later

  -- each goes to an allowed size, at most C
  pub moves_within : Within l.C (grow l k v).moves
  moves_within = goes.within

  -- "so at most 13 moves follow the first": as many as there are sizes above the least
  pub moves_few : length (grow l k v).moves ≤ suc (greatest_log - least_log)
  moves_few = go _ (grow_checked l k v) refl
    where
      go : (g : GrowOutcome) → GrowChecked l k v g → grow l k v ≡ g → length g.moves ≤ suc (greatest_log - least_log)
      go g (checks.by1 a e) q = rw e (omega arith)
      go g (checks.by3 a b e) q = rw e (omega arith)
      go g (checks.by2 a b d e) q = rw e (omega arith)
      go g (checks.past a b d e) q = rw (← q) (few l.C (grow l k v).moves (passed_c l a f) goes.later goes.within)

  -- the table is where its last move put it, and the record says where: its size, and its half, the other one after each move
  pub grown_where : ((grow l k v).size ≡ last_from l.size (grow l k v).moves) × ((grow l k v).half ≡ half_after (grow l k v).moves l.half)
  grown_where = (goes.size, goes.half)

  -- what became of its half: with no move it stays, but for the insert's change; after one it was cleared
  pub grown_used : is_cleared (grow l k v).used ≡ any_move (grow l k v).moves
  grown_used = goes.used
