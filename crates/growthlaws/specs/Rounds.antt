-- How a round of the growing insert ends, and what makes enough rounds.
use Rattle.std.specs.Prelude.{true, List, [], ◌≡◌, ℕ, suc, ◌*◌, ◌^◌, ◌≤◌, ◌<◌}
use Rattle.rules.specs.Sizes.{is_size, least_log}
use Rattle.rules.specs.Cells.{Params, Counts}
use Rattle.rules.specs.Answers.{Change, Outcome}
use Rattle.rules.specs.Calls.{insert_stored}
use Rattle.rules.specs.Sound.{LiveCounts}
use Rattle.rules.specs.Growth.{sample, first_size}
use Rattle.rules.specs.Moves.{Held, cleared}
use Rattle.rules.specs.Growing.{Round, GrowOutcome, answered, refused_at, with_move, round_after, carried_by, rounds}
use Rattle.laws.specs.Full.{IsFull}
use Rattle.sound.specs.Built.{Built, AllLive}
use Rattle.growthlaws.specs.Tries.{FullAt, MovedInto, Trouble}

-- the table of a round
abbrev pub params_of : (null : ℕ) → (hash_of : ℕ → ℕ) → Round → Params
params_of null hash_of r = record { S = r.size; null = null; hash_of = hash_of }

-- every taken cell of it is live
abbrev pub LiveRound : (null : ℕ) → (hash_of : ℕ → ℕ) → Round → Type 0
LiveRound null hash_of r = AllLive (params_of null hash_of r) r.held.cells r.held.value

-- it is of an allowed size, built by inserts, and live counts its live cells
pub record BuiltRound (null : ℕ) (hash_of : ℕ → ℕ) (r : Round) : Type 0 where
  pub sized : is_size r.size ≡ true
  pub built : Built (params_of null hash_of r) r.held.cells r.held.value
  pub counted : LiveCounts (params_of null hash_of r) r.held.cells r.held.value r.counts

-- its insert, and the first size to try if that is Full
abbrev pub insert_of : (null h k v : ℕ) → Round → Outcome
insert_of null h k v r = insert_stored r.size null r.held.cells r.held.value r.counts h k v

abbrev pub first_of : (null : ℕ) → (hash_of : ℕ → ℕ) → (h k v : ℕ) → Round → ℕ
first_of null hash_of h k v r =
    first_size r.size (sample (params_of null hash_of r) r.held.cells r.held.value (carried_by (insert_of null h k v r).said))

-- so many rounds are enough. Before the first move: the least size, doubled once for each round but the first, passes C. After a
-- move, where every taken cell is live: the table's size, doubled once for each round, passes C.
pub data Enough (C null : ℕ) (hash_of : ℕ → ℕ) (r : Round) (left : ℕ) : Type 0 where
  first : (n : ℕ) → left ≡ suc n → C < 2 ^ least_log * 2 ^ n → Enough C null hash_of r left
  later : r.size ≤ C → LiveRound null hash_of r → C < r.size * 2 ^ left → Enough C null hash_of r left

-- how a round ends, with so many rounds left after it
pub data RoundWay (C null : ℕ) (hash_of : ℕ → ℕ) (clear : Held) (h k v left : ℕ) (r : Round) (g : GrowOutcome) : Type 0 where
  -- the insert is not Full: its answer ends the call
  answers : (IsFull (insert_of null h k v r).said → ⊥) → g ≡ answered r (insert_of null h k v r) → RoundWay C null hash_of clear h k v left r g
  -- NoRoom with no try: the spare half is left
  untried : IsFull (insert_of null h k v r).said → C < first_of null hash_of h k v r
      → g ≡ refused_at r 6 (insert_of null h k v r).looked r.spare
      → RoundWay C null hash_of clear h k v left r g
  -- NoRoom after every size up to C was Full
  all_full : IsFull (insert_of null h k v r).said → first_of null hash_of h k v r ≤ C
      → ((j : ℕ) → first_of null hash_of h k v r * 2 ^ j ≤ C → FullAt null r.size r.held r.counts clear (first_of null hash_of h k v r * 2 ^ j))
      → g ≡ refused_at r 6 (insert_of null h k v r).looked (cleared [])
      → RoundWay C null hash_of clear h k v left r g
  -- a try met other trouble than Full
  breaks : IsFull (insert_of null h k v r).said → Trouble C null r.size r.held r.counts clear (first_of null hash_of h k v r)
      → g ≡ refused_at r 5 (insert_of null h k v r).looked (cleared [])
      → RoundWay C null hash_of clear h k v left r g
  -- a move, and the insert again
  moves : IsFull (insert_of null h k v r).said → (T : ℕ) (c : Counts) (fills : List Change)
      → MovedInto C null r.size r.held r.counts clear (first_of null hash_of h k v r) T c fills
      → g ≡ with_move T (rounds C null hash_of clear h k v left (round_after r clear T c fills))
      → RoundWay C null hash_of clear h k v left r g
