-- How many cells the last insert of a growing insert looks at. Assumes nothing.
use mathlib.Core.Bool.{true}
use mathlib.Core.Path.{◌≡◌}
use Prim.Native.Nat.{ℕ, zero, suc, ◌+◌, ◌≤◌}
use native.Mathlib.Omega.{arith}
use Rattle.rules.specs.Sizes.{is_size, probe_limit}
use Rattle.rules.specs.Moves.{Held}
use Rattle.rules.specs.Growing.{LentHalves, Round, GrowOutcome, round_after, rounds, most_rounds, start, grow}
use Rattle.steps.proofs.Sizes.{size_least}
use Rattle.laws.proofs.Looked.{stored_looked, positions_most}
use Rattle.growthlaws.specs.Rounds as ways
use Rattle.growthlaws.specs.Rounds.{insert_of, RoundWay}
use Rattle.growthlaws.specs.Grown as checks
use Rattle.growthlaws.specs.Grown.{Halves, GrowChecked}
use Rattle.growthlaws.proofs.Rounds.{round_way, move_sized}
use Rattle.growthlaws.proofs.Checks.{grow_checked, passed_size, passed_c}

module _ (C null : ℕ) (hash_of : ℕ → ℕ) (clear : Held) (h k v : ℕ) (size : is_size C ≡ true) where
  insert_looked : (r : Round) → is_size r.size ≡ true → (insert_of null h k v r).looked ≤ r.size + probe_limit
  insert_looked r sized =
      let l = size_least r.size sized in
      omega (arith, stored_looked r.size null r.held.cells r.held.value h k r.counts v, positions_most r.size r.held.cells h k (omega (arith, l)))

  rounds_looked : (left : ℕ) (r : Round) → is_size r.size ≡ true → (rounds C null hash_of clear h k v left r).looked ≤ (rounds C null hash_of clear h k v left r).size + probe_limit
  unfolding rounds
  rounds_looked zero r sized = omega arith
  rounds_looked (suc left) r sized = go _ (round_way C null hash_of clear h k v left r size) (rounds_looked left)
    where
      go : (g : GrowOutcome) → RoundWay C null hash_of clear h k v left r g
          → ((n : Round) → is_size n.size ≡ true → (rounds C null hash_of clear h k v left n).looked ≤ (rounds C null hash_of clear h k v left n).size + probe_limit)
          → g.looked ≤ g.size + probe_limit
      go g (ways.answers f e) ih = rw e (insert_looked r sized)
      go g (ways.untried f u e) ih = rw e (insert_looked r sized)
      go g (ways.all_full f u z e) ih = rw e (insert_looked r sized)
      go g (ways.breaks f t e) ih = rw e (insert_looked r sized)
      go g (ways.moves f T c fills m e) ih = rw e (ih (round_after r clear T c fills) (move_sized C null hash_of clear h k v size r sized T c fills m))

-- at most S + 128, by the size of the table that it leaves
pub grow_looked_most : (l : LentHalves) → Halves l → (k v : ℕ) → (grow l k v).looked ≤ (grow l k v).size + probe_limit
grow_looked_most l f k v = go _ (grow_checked l k v)
  where
    go : (g : GrowOutcome) → GrowChecked l k v g → g.looked ≤ g.size + probe_limit
    go g (checks.by1 a e) = rw e (omega arith)
    go g (checks.by3 a b e) = rw e (omega arith)
    go g (checks.by2 a b d e) = rw e (omega arith)
    go g (checks.past a b d e) =
        rw e (rounds_looked l.C l.null l.hash_of l.clear (l.hash_of k) k v (passed_c l a f) most_rounds (start l) (passed_size l a))
