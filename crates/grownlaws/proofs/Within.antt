-- The changes that a growing insert makes in the half in use lie within the half's cells. Assumes nothing.
use mathlib.Core.Bool.{true}
use mathlib.Core.List.{List, [], ◌∷◌, ◌++◌}
use mathlib.Core.Path.{◌≡◌}
use Prim.Native.Nat.{ℕ, zero, suc, ◌≤◌}
use native.Mathlib.Omega.{arith}
use Rattle.rules.specs.Sizes.{is_size}
use Rattle.rules.specs.Answers.{Link, unlinked, as_first, as_second, Change, nothing, store, fill}
use Rattle.rules.specs.Moves.{Held, Became, stays, cleared}
use Rattle.rules.specs.Growing.{LentHalves, Round, GrowOutcome, and_then, round_after, rounds, most_rounds, start, grow}
use Rattle.steps.proofs.Sizes.{size_least}
use Rattle.cells.proofs.Views.{LinkWithin, Within}
use Rattle.laws.proofs.Within.{stored_within}
use Rattle.moving.proofs.Held.{WithinAll, move_within}
use Rattle.growthlaws.specs.Rounds as ways
use Rattle.growthlaws.specs.Rounds.{insert_of, RoundWay}
use Rattle.growthlaws.specs.Grown as checks
use Rattle.growthlaws.specs.Grown.{Halves, GrowChecked}
use Rattle.growthlaws.proofs.Rounds.{round_way, move_sized}
use Rattle.growthlaws.proofs.Checks.{grow_checked, passed_size, passed_most, passed_c}

-- ---- within so many cells, so within more

link_more : (S C : ℕ) → S ≤ C → (l : Link) → LinkWithin S l → LinkWithin C l
link_more S C u unlinked w = tt
link_more S C u (as_first i d) w = omega arith
link_more S C u (as_second i d) w = omega arith

within_more : (S C : ℕ) → S ≤ C → (c : Change) → Within S c → Within C c
within_more S C u nothing w = tt
within_more S C u (store i v) w = omega arith
within_more S C u (fill i h k v l) w = (omega (arith, w.0), link_more S C u l w.1)

all_more : (S C : ℕ) → S ≤ C → (l : List Change) → WithinAll S l → WithinAll C l
all_more S C u [] w = tt
all_more S C u (c ∷ l) w = (within_more S C u c w.0, all_more S C u l w.1)

-- ---- what became of a half

abbrev pub changes_of : Became → List Change
changes_of (stays l) = l
changes_of (cleared l) = l

last_within : (C : ℕ) (l : List Change) (c : Change) → WithinAll C l → Within C c → WithinAll C (l ++ c ∷ [])
last_within C [] c w x = (x, tt)
last_within C (b ∷ l) c w x = (w.0, last_within C l c w.1 x)

then_within : (C : ℕ) (u : Became) (c : Change) → WithinAll C (changes_of u) → Within C c → WithinAll C (changes_of (and_then u c))
then_within C (stays l) c w x = last_within C l c w x
then_within C (cleared l) c w x = last_within C l c w x

-- ---- rounds

module _ (C null : ℕ) (hash_of : ℕ → ℕ) (clear : Held) (h k v : ℕ) (allowed : is_size C ≡ true) where
  rounds_within : (left : ℕ) (r : Round) → is_size r.size ≡ true → r.size ≤ C → WithinAll C (changes_of r.used)
      → WithinAll C (changes_of (rounds C null hash_of clear h k v left r).used)
  unfolding rounds
  rounds_within zero r sized u w = w
  rounds_within (suc left) r sized u w = go _ (round_way C null hash_of clear h k v left r allowed) (rounds_within left)
    where
      go : (g : GrowOutcome) → RoundWay C null hash_of clear h k v left r g
          → ((n : Round) → is_size n.size ≡ true → n.size ≤ C → WithinAll C (changes_of n.used) → WithinAll C (changes_of (rounds C null hash_of clear h k v left n).used))
          → WithinAll C (changes_of g.used)
      go g (ways.answers f e) ih =
          rw e
          (then_within C r.used (insert_of null h k v r).change w
          (within_more r.size C u (insert_of null h k v r).change (stored_within r.size null r.held.cells r.held.value r.counts h k (omega (arith, size_least r.size sized)) v)))
      go g (ways.untried f x e) ih = rw e w
      go g (ways.all_full f x z e) ih = rw e w
      go g (ways.breaks f t e) ih = rw e w
      go g (ways.moves f T c fills m e) ih =
          let s = move_sized C null hash_of clear h k v allowed r sized T c fills m in
          rw e
          (ih (round_after r clear T c fills) s m.most
          (all_more T C m.most fills (rw m.filled at (move_within null r.held T (omega (arith, size_least T s)) r.size r.counts clear))))

pub grow_within : (l : LentHalves) → Halves l → (k v : ℕ) → WithinAll l.C (changes_of (grow l k v).used)
grow_within l f k v = go _ (grow_checked l k v)
  where
    go : (g : GrowOutcome) → GrowChecked l k v g → WithinAll l.C (changes_of g.used)
    go g (checks.by1 a e) = rw e tt
    go g (checks.by3 a b e) = rw e tt
    go g (checks.by2 a b d e) = rw e tt
    go g (checks.past a b d e) =
        rw e
        (rounds_within l.C l.null l.hash_of l.clear (l.hash_of k) k v (passed_c l a f) most_rounds (start l) (passed_size l a) (passed_most l a) tt)
