-- The checks of a growing insert. Assumes nothing.
use mathlib.Core.Bool.{Bool, true, false, ◌&&◌}
use mathlib.Core.List.{[]}
use mathlib.Core.Path.{◌≡◌, refl}
use Prim.Native.Nat.{ℕ, ◌≤◌}
use native.Mathlib.Omega.{arith}
use borrow.Author.Tests.{leb-true}
use lib.Dec.{leb}
use Rattle.rules.specs.Sizes.{is_size}
use Rattle.rules.specs.Cells.{shape, offered, zero_hash}
use Rattle.rules.specs.Answers.{refused, Outcome, leave}
use Rattle.rules.specs.Calls.{insert}
use Rattle.rules.specs.Moves.{stays}
use Rattle.rules.specs.Growing.{LentHalves, in_use, GrowOutcome, refused_at, rounds, most_rounds, start, grow}
use Rattle.laws.specs.Ways as insertWays
use Rattle.laws.specs.Ways.{InsertChecked}
use Rattle.laws.proofs.Ways.{insert_checked}
use Rattle.sound.proofs.ByKey.{shape_shaped}
use Rattle.cells.specs.Layout.{null, view, value_in, fresh_words, fresh_deltas}
use Rattle.movelaws.specs.Carried.{IsClear}
use Rattle.movelaws.proofs.Fresh.{fresh_clear}
use Rattle.growthlaws.specs.Rounds.{insert_of}
use Rattle.growthlaws.specs.Grown as ways
use Rattle.growthlaws.specs.Grown.{Halves, GrowChecked}

-- a growing insert is refused by 1, 3 or 2, in this order, or its rounds follow
pub grow_checked : (l : LentHalves) (k v : ℕ) → GrowChecked l k v (grow l k v)
unfolding grow
grow_checked l k v = go _ (insert_checked (in_use l) k v)
  where
    go : (o : Outcome) → InsertChecked (in_use l) k v o → GrowChecked l k v (grow l k v)
    go o (insertWays.by1 a e) = ways.by1 a (rw a)
    go o (insertWays.by3 a b e) = ways.by3 a b (rw (a, b))
    go o (insertWays.by2 a b d e) = ways.by2 a b d (rw (a, b, d))
    go o (insertWays.past a b d e) = ways.past a b d (rw (a, b, d))

-- beside the fixed insert of the table in use: a check refuses both, or the rounds begin with what the insert does
pub data Begun (l : LentHalves) (k v : ℕ) (o : Outcome) (g : GrowOutcome) : Type 0 where
  checked : (n : ℕ) → n ≤ 3 → o ≡ leave (refused n []) 0 l.counts → g ≡ refused_at (start l) n 0 (stays []) → Begun l k v o g
  past : shape (in_use l) ≡ 0 → offered l.null v ≡ 0 → zero_hash (l.hash_of k) ≡ 0
      → o ≡ insert_of l.null (l.hash_of k) k v (start l)
      → g ≡ rounds l.C l.null l.hash_of l.clear (l.hash_of k) k v most_rounds (start l)
      → Begun l k v o g

pub begun : (l : LentHalves) (k v : ℕ) → Begun l k v (insert (in_use l) k v) (grow l k v)
unfolding grow
begun l k v = go _ (insert_checked (in_use l) k v)
  where
    go : (o : Outcome) → InsertChecked (in_use l) k v o → Begun l k v o (grow l k v)
    go o (insertWays.by1 a e) = checked 1 (omega arith) e (rw a)
    go o (insertWays.by3 a b e) = checked 3 (omega arith) e (rw (a, b))
    go o (insertWays.by2 a b d e) = checked 2 (omega arith) e (rw (a, b, d))
    go o (insertWays.past a b d e) = past a b d e (rw (a, b, d))

-- ---- what check 1 shows

both : (a b : Bool) → a && b ≡ true → (a ≡ true) × (b ≡ true)
both true b e = (refl, e)
both false b e = let z : ◌≡◌ {A = ℕ} 0 1 = cc in absurd (omega arith)

module _ (l : LentHalves) (e : shape (in_use l) ≡ 0) where
  front : (l.shaped && is_size l.size ≡ true) × (leb l.size l.C ≡ true)
  front = both (l.shaped && is_size l.size) (leb l.size l.C) (shape_shaped (in_use l) e)

  -- both halves hold C cells
  pub passed_shaped : l.shaped ≡ true
  passed_shaped = (both l.shaped (is_size l.size) front.0).0

  -- the table's size is allowed
  pub passed_size : is_size l.size ≡ true
  passed_size = (both l.shaped (is_size l.size) front.0).1

  -- and at most C
  pub passed_most : l.size ≤ l.C
  passed_most = leb-true l.size l.C front.1

  -- which is allowed too
  pub passed_c : Halves l → is_size l.C ≡ true
  passed_c f = f.sized passed_shaped

  -- and a cleared half is clear
  pub passed_clear : Halves l → IsClear l.null l.C l.clear
  passed_clear f = f.clear passed_shaped

-- ---- halves that are cleared as the layout says

pub fresh_halves : (l : LentHalves) → (l.shaped ≡ true → is_size l.C ≡ true) → l.null ≡ null
    → l.clear ≡ record { cells = view (fresh_words l.C) (fresh_deltas l.C); value = value_in (fresh_words l.C) }
    → Halves l
fresh_halves l s n e = record { sized = s; clear = λ y. rw (n, e) (fresh_clear l.C l.C (s y) (omega arith)) }
