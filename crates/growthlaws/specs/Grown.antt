-- What the laws ask of two halves, how a growing insert passes its checks, and the halves after it.
use Rattle.std.specs.Prelude.{Bool, true, false, List, [], ◌∷◌, ◌≡◌, ℕ, ◌*◌, ◌≤◌}
use Rattle.rules.specs.Sizes.{is_size}
use Rattle.rules.specs.Cells.{shape, offered, zero_hash}
use Rattle.rules.specs.Answers.{Outcome}
use Rattle.rules.specs.Moves.{held_after, Became, stays, cleared}
use Rattle.movelaws.specs.Plain.{held_become}
use Rattle.rules.specs.Growing.{Half, other_half, LentHalves, in_use, GrowOutcome, refused_at, rounds, most_rounds, start}
use Rattle.movelaws.specs.Carried.{IsClear}
use Rattle.growthlaws.specs.Rounds.{first_of}

-- where both halves hold C cells, C is an allowed size, and what a half holds once cleared is clear
pub record Halves (l : LentHalves) : Type 0 where
  pub sized : l.shaped ≡ true → is_size l.C ≡ true
  pub clear : l.shaped ≡ true → IsClear l.null l.C l.clear

-- the first size to try, where the first insert is Full
abbrev pub first_try : LentHalves → (k v : ℕ) → ℕ
first_try l k v = first_of l.null l.hash_of (l.hash_of k) k v (start l)

-- checks run 1, 3, 2: each with nothing looked at and both halves left; or the rounds follow
pub data GrowChecked (l : LentHalves) (k v : ℕ) (g : GrowOutcome) : Type 0 where
  by1 : shape (in_use l) ≡ 1 → g ≡ refused_at (start l) 1 0 (stays []) → GrowChecked l k v g
  by3 : shape (in_use l) ≡ 0 → offered l.null v ≡ 3 → g ≡ refused_at (start l) 3 0 (stays []) → GrowChecked l k v g
  by2 : shape (in_use l) ≡ 0 → offered l.null v ≡ 0 → zero_hash (l.hash_of k) ≡ 2
      → g ≡ refused_at (start l) 2 0 (stays [])
      → GrowChecked l k v g
  past : shape (in_use l) ≡ 0 → offered l.null v ≡ 0 → zero_hash (l.hash_of k) ≡ 0
      → g ≡ rounds l.C l.null l.hash_of l.clear (l.hash_of k) k v most_rounds (start l)
      → GrowChecked l k v g

-- ---- the halves after a call

-- the half was cleared
abbrev pub is_cleared : Became → Bool
is_cleared (stays l) = false
is_cleared (cleared l) = true

-- the halves, lent again: the half in use is the one that was, where there was no move; else it was cleared
abbrev pub grown : LentHalves → GrowOutcome → LentHalves
grown l g =
    record {
      shaped = l.shaped;
      C = l.C;
      size = g.size;
      half = g.half;
      null = l.null;
      hash_of = l.hash_of;
      used = held_become l.clear g.used l.used;
      clear = l.clear;
      counts = g.counts;
    }

-- ---- the sizes moved to

-- each is at least twice the one before, the first at least twice S
abbrev pub Doubles : (S : ℕ) → List ℕ → Type 0
Doubles S [] = Unit {0}
Doubles S (T ∷ l) = (2 * S ≤ T) × Doubles T l

-- the first may be any size
abbrev pub LaterDouble : List ℕ → Type 0
LaterDouble [] = Unit {0}
LaterDouble (T ∷ l) = Doubles T l

-- each is an allowed size, at most C
abbrev pub Within : (C : ℕ) → List ℕ → Type 0
Within C [] = Unit {0}
Within C (T ∷ l) = (is_size T ≡ true) × (T ≤ C) × Within C l

-- there was a move
abbrev pub any_move : List ℕ → Bool
any_move [] = false
any_move (T ∷ l) = true

-- the half after so many moves
abbrev pub half_after : List ℕ → Half → Half
half_after [] f = f
half_after (T ∷ l) f = half_after l (other_half f)

-- ---- a growing insert with no Full

-- it is the fixed insert of the table in use: the same answer, in the same place, with no move, and the spare half is not touched
pub record AsInsert (l : LentHalves) (o : Outcome) (g : GrowOutcome) : Type 0 where
  pub said : g.said ≡ o.said
  pub looked : g.looked ≡ o.looked
  pub counts : g.counts ≡ o.counts
  pub size : g.size ≡ l.size
  pub half : g.half ≡ l.half
  pub used : held_become l.clear g.used l.used ≡ held_after o.change l.used
  pub spare : g.spare ≡ stays []
  pub moves : g.moves ≡ []

-- table and record are as they were lent
pub record TableLeft (l : LentHalves) (g : GrowOutcome) : Type 0 where
  pub used : held_become l.clear g.used l.used ≡ l.used
  pub counts : g.counts ≡ l.counts
  pub size : g.size ≡ l.size
  pub half : g.half ≡ l.half
