-- The two halves, and the insert that grows.
use Rattle.std.specs.Prelude.{Bool, false, cond, ◌&&◌, List, [], ◌∷◌, ◌++◌, ℕ, zero, suc, ◌-◌, ◌*◌, eqb, leb}
use Rattle.rules.specs.Sizes.{least_log, greatest_log, is_size}
use Rattle.rules.specs.Cells.{Params, Counts, Lent, shape, offered, zero_hash}
use Rattle.rules.specs.Answers.{Said, found, absent, new, replaced, revived, removed, refused, Change, Outcome}
use Rattle.rules.specs.Calls.{insert_stored}
use Rattle.rules.specs.Growth.{sample, first_size}
use Rattle.rules.specs.Moves.{Held, held_after_all, Became, stays, cleared, Ended, all, stop, move_all}

-- which half is in use
pub data Half : Type 0 where
  lower : Half
  upper : Half

abbrev pub other_half : Half → Half
other_half lower = upper
other_half upper = lower

-- what a call on a growing table is lent: whether both halves hold C cells for an allowed C, the table's size and half, what
-- stands in the half in use, and what a half holds once cleared
pub record LentHalves : Type 0 where
  pub shaped : Bool
  pub C : ℕ
  pub size : ℕ
  pub half : Half
  pub null : ℕ
  pub hash_of : ℕ → ℕ
  pub used : Held
  pub clear : Held
  pub counts : Counts

-- the table that lies in the front of the half in use: its size must be allowed, and at most C
abbrev pub in_use : LentHalves → Lent
in_use l =
    record {
      shaped = l.shaped && is_size l.size && leb l.size l.C;
      params = record { S = l.size; null = l.null; hash_of = l.hash_of };
      cells = l.used.cells;
      value = l.used.value;
      counts = l.counts;
    }

-- ---- the sizes to try after Full

pub data TryEnd : Type 0 where
  -- all went over, into a table of so many cells
  moved : (T : ℕ) → Counts → (fills : List Change) → TryEnd
  -- 6: the next size is above C
  no_room : TryEnd
  -- 5
  broken : TryEnd

pub record Tries : Type 0 where
  pub end : TryEnd
  -- what became of the spare half: only a try clears it
  pub spare : Became

-- after a try of T: Full clears the spare half and the next size follows; other trouble is 5
abbrev pub tried_at : (T : ℕ) → List Change → Tries → Ended → Tries
tried_at T fills next (all c) = record { end = moved T c fills; spare = cleared fills }
tried_at T fills next (stop n l) = cond (eqb n 4) next (record { end = broken; spare = cleared [] })

-- sizes from T on, each twice the one before, no more than `left` of them; a size above C is not tried
unfoldable pub tries : (C null S : ℕ) → Held → Counts → (clear : Held) → (left T : ℕ) → Became → Tries
tries C null S from c clear zero T spare = record { end = no_room; spare = spare }
tries C null S from c clear (suc left) T spare =
    let m = move_all null S from c T clear in
    let next = tries C null S from c clear left (2 * T) (cleared []) in
    cond (leb T C) (tried_at T m.fills next m.ended) (record { end = no_room; spare = spare })

-- there are so many sizes
abbrev pub sizes : ℕ
sizes = suc greatest_log - least_log

-- ---- the growing insert

-- between rounds: where the table is, what it holds, and what has become of the two halves so far
pub record Round : Type 0 where
  pub size : ℕ
  pub half : Half
  pub held : Held
  pub counts : Counts
  pub used : Became
  pub spare : Became

pub record GrowOutcome : Type 0 where
  pub said : Said
  -- of the last insert walk
  pub looked : ℕ
  pub counts : Counts
  pub size : ℕ
  pub half : Half
  -- what became of the half in use at the end, and of the other
  pub used : Became
  pub spare : Became
  -- the sizes moved to, in order
  pub moves : List ℕ

-- one change more
abbrev pub and_then : Became → Change → Became
and_then (stays l) c = stays (l ++ c ∷ [])
and_then (cleared l) c = cleared (l ++ c ∷ [])

-- an insert that was not Full ends the call
abbrev pub answered : Round → Outcome → GrowOutcome
answered r o =
    record {
      said = o.said;
      looked = o.looked;
      counts = o.counts;
      size = r.size;
      half = r.half;
      used = and_then r.used o.change;
      spare = r.spare;
      moves = [];
    }

-- a refusal: the table stays where it is
abbrev pub refused_at : Round → (n looked : ℕ) → (spare : Became) → GrowOutcome
refused_at r n looked spare =
    record {
      said = refused n [];
      looked = looked;
      counts = r.counts;
      size = r.size;
      half = r.half;
      used = r.used;
      spare = spare;
      moves = [];
    }

abbrev pub with_move : ℕ → GrowOutcome → GrowOutcome
with_move T g =
    record {
      said = g.said;
      looked = g.looked;
      counts = g.counts;
      size = g.size;
      half = g.half;
      used = g.used;
      spare = g.spare;
      moves = T ∷ g.moves;
    }

-- after a move the old half is cleared whole, and the halves change roles
abbrev pub round_after : Round → (clear : Held) → (T : ℕ) → Counts → List Change → Round
round_after r clear T c fills =
    record {
      size = T;
      half = other_half r.half;
      held = held_after_all fills clear;
      counts = c;
      used = cleared fills;
      spare = cleared [];
    }

-- the position that Full carries
abbrev pub carried_by : Said → ℕ
carried_by (refused n (p ∷ l)) = p
carried_by (refused n []) = 0
carried_by (found v) = 0
carried_by absent = 0
carried_by new = 0
carried_by (replaced v) = 0
carried_by revived = 0
carried_by (removed v) = 0

abbrev pub is_full : Said → Bool
is_full (refused n l) = eqb n 4
is_full (found v) = false
is_full absent = false
is_full new = false
is_full (replaced v) = false
is_full revived = false
is_full (removed v) = false

-- the tries of a round whose insert was Full
abbrev pub round_tries : (C : ℕ) → Params → (clear : Held) → Round → (carried : ℕ) → Tries
round_tries C p clear r carried =
    let n = sample p r.held.cells r.held.value carried in
    tries C p.null p.S r.held r.counts clear sizes (first_size p.S n) r.spare

abbrev pub after_tries : Round → (looked : ℕ) → (clear : Held) → Tries → TryEnd → (Round → GrowOutcome) → GrowOutcome
after_tries r looked clear t (moved T c fills) next = with_move T (next (round_after r clear T c fills))
after_tries r looked clear t no_room next = refused_at r 6 looked t.spare
after_tries r looked clear t broken next = refused_at r 5 looked t.spare

-- rounds: the insert; after Full the tries; after a move the insert again. No more than `left` of them: more are never needed
-- (crates/growthlaws/proofs/Rounds.antt), so that the line for none left is never reached.
unfoldable pub rounds : (C null : ℕ) → (hash_of : ℕ → ℕ) → (clear : Held) → (h k v left : ℕ) → Round → GrowOutcome
rounds C null hash_of clear h k v zero r = refused_at r 6 0 r.spare
rounds C null hash_of clear h k v (suc left) r =
    let p : Params = record { S = r.size; null = null; hash_of = hash_of } in
    let o = insert_stored r.size null r.held.cells r.held.value r.counts h k v in
    let t = round_tries C p clear r (carried_by o.said) in
    cond (is_full o.said)
    (after_tries r o.looked clear t t.end (λ n. rounds C null hash_of clear h k v left n))
    (answered r o)

-- more than a move to each size and the last round
abbrev pub most_rounds : ℕ
most_rounds = suc (suc sizes)

abbrev pub start : LentHalves → Round
start l =
    record {
      size = l.size;
      half = l.half;
      held = l.used;
      counts = l.counts;
      used = stays [];
      spare = stays [];
    }

abbrev pub unless_grow : ℕ → LentHalves → GrowOutcome → GrowOutcome
unless_grow zero l g = g
unless_grow (suc n) l g = refused_at (start l) (suc n) 0 (stays [])

-- checks run 1, 3, 2
unfoldable pub grow : LentHalves → (k v : ℕ) → GrowOutcome
grow l k v =
    let h = l.hash_of k in
    unless_grow (shape (in_use l)) l
    (unless_grow (offered l.null v) l
    (unless_grow (zero_hash h) l (rounds l.C l.null l.hash_of l.clear h k v most_rounds (start l))))
