-- The tries and the rounds of the growing insert, on the slices of the two halves.
use Rattle.std.specs.Prelude.{true, cond, List, [], ◌≡◌, ℕ, ◌*◌, ◌^◌, ◌≤◌, length, Result, Ok, Err}
use Rattle.hashers.specs.declared.Hasher.{Hasher}
use Rattle.rules.specs.Sizes.{least_log, is_size}
use Rattle.rules.specs.Cells.{Counts}
use Rattle.rules.specs.Answers.{Said, refused, Outcome}
use Rattle.rules.specs.Calls.{insert_stored}
use Rattle.rules.specs.Moves.{stays}
use Rattle.rules.specs.Growing as rule
use Rattle.rules.specs.Growing.{Tries, TryEnd, Round, round_tries, carried_by, is_full}
use Rattle.cells.specs.Layout.{null, view, value_in, params_of, counts_of, fresh_words, fresh_deltas, words_after, deltas_after}
use Rattle.moving.specs.Slices.{held_in, clear_held, words_become, deltas_become}
use Rattle.growth.specs.Growth.{grow_said}
use Rattle.growth.specs.declared.TryError.{TryError}
use Rattle.growth.specs.declared.TryError.TheVariants as errors
use Rattle.growth.specs.declared.RoundEnd.{RoundEnd}
use Rattle.growth.specs.declared.RoundEnd.TheVariants as ends
use Rattle.growth.specs.declared.Turned.{Turned}

-- ---- what the workers ask

-- a power of two that is at least the least size
pub record Power (n : ℕ) : Type 0 where
  pub log : ℕ
  pub is : n ≡ 2 ^ log
  pub least : least_log ≤ log

-- the source holds S cells, the destination so many cells, an allowed size
pub record Room (from : List ℕ) (S : ℕ) (ws ds : List ℕ) (cells : ℕ) : Type 0 where
  pub source : 3 * S ≤ length from
  pub size : is_size cells ≡ true
  pub words : length ws ≡ 3 * cells
  pub deltas : length ds ≡ 2 * cells

-- the destination is clear
pub record Cleared (from : List ℕ) (S : ℕ) (ws ds : List ℕ) (cells : ℕ) : Type 0 where
  pub source : 3 * S ≤ length from
  pub size : is_size cells ≡ true
  pub words : ws ≡ fresh_words cells
  pub deltas : ds ≡ fresh_deltas cells

-- two halves of so many cells, with a table of S cells in the front of the first
pub record Halved (ws ds sws sds : List ℕ) (cells S : ℕ) : Type 0 where
  pub size : is_size S ≡ true
  pub most : S ≤ cells
  pub cells_size : is_size cells ≡ true
  pub words : length ws ≡ 3 * cells
  pub deltas : length ds ≡ 2 * cells
  pub spare_words_length : length sws ≡ 3 * cells
  pub spare_deltas_length : length sds ≡ 2 * cells

-- ---- the tries, with the spare half

pub data TriedTo : Type 0 where
  to : ℕ → TriedTo
  no_room : TriedTo
  broken : TriedTo

pub record TriedOn : Type 0 where
  pub end : TriedTo
  pub words : List ℕ
  pub deltas : List ℕ

abbrev pub tried_to : Result ℕ TryError → TriedTo
tried_to (Ok T) = to T
tried_to (Err errors.NoRoom) = no_room
tried_to (Err errors.Broken) = broken

abbrev pub tried_by : Result ℕ TryError → List ℕ → List ℕ → TriedOn
tried_by r ws ds = record { end = tried_to r; words = ws; deltas = ds }

abbrev pub end_of : TryEnd → TriedTo
end_of (rule.moved T c fills) = to T
end_of rule.no_room = no_room
end_of rule.broken = broken

abbrev pub tried_on : (cells : ℕ) → Tries → List ℕ → List ℕ → TriedOn
tried_on cells t ws ds = record { end = end_of t.end; words = words_become cells t.spare ws; deltas = deltas_become cells t.spare ds }

-- ---- a round, with both halves by their roles

-- with the call's answer, or with a move into so many cells
pub data TurnEnd : Type 0 where
  answered : Said → TurnEnd
  moved : ℕ → TurnEnd

pub record TurnedOn : Type 0 where
  pub end : TurnEnd
  pub looked : ℕ
  pub counts : Counts
  pub words : List ℕ
  pub deltas : List ℕ
  pub spare_words : List ℕ
  pub spare_deltas : List ℕ

abbrev pub round_end : RoundEnd → TurnEnd
round_end (ends.Answered s) = answered (grow_said s)
round_end (ends.Moved T) = moved T

abbrev pub turned_by : Turned → (ws ds sws sds : List ℕ) → TurnedOn
turned_by r ws ds sws sds =
    record {
      end = round_end r.end;
      looked = r.looked;
      counts = counts_of r.live;
      words = ws;
      deltas = ds;
      spare_words = sws;
      spare_deltas = sds;
    }

-- after Full
abbrev pub tried_end : TriedTo → TurnEnd
tried_end (to T) = moved T
tried_end no_room = answered (refused 6 [])
tried_end broken = answered (refused 5 [])

-- after a move the old half is clear, else it is as it was
abbrev pub old_words : (cells : ℕ) → TriedTo → List ℕ → List ℕ
old_words cells (to T) ws = fresh_words cells
old_words cells no_room ws = ws
old_words cells broken ws = ws

abbrev pub old_deltas : (cells : ℕ) → TriedTo → List ℕ → List ℕ
old_deltas cells (to T) ds = fresh_deltas cells
old_deltas cells no_room ds = ds
old_deltas cells broken ds = ds

abbrev pub turn_tried : (cells looked live : ℕ) → (ws ds : List ℕ) → TriedOn → TurnedOn
turn_tried cells looked live ws ds t =
    record {
      end = tried_end t.end;
      looked = looked;
      counts = counts_of live;
      words = old_words cells t.end ws;
      deltas = old_deltas cells t.end ds;
      spare_words = t.words;
      spare_deltas = t.deltas;
    }

-- a round that starts from these slices; which half they are is not read in one round
abbrev pub round_on : (size live : ℕ) → (ws ds : List ℕ) → Round
round_on size live ws ds =
    record {
      size = size;
      half = rule.lower;
      held = held_in ws ds;
      counts = counts_of live;
      used = stays [];
      spare = stays [];
    }

unfoldable pub full_on : (cells : ℕ) → Hasher → (size live looked position : ℕ) → (ws ds sws sds : List ℕ) → TurnedOn
full_on cells hasher size live looked position ws ds sws sds =
    turn_tried cells looked live ws ds
    (tried_on cells (round_tries cells (params_of size hasher) (clear_held cells) (round_on size live ws ds) position) sws sds)

abbrev pub answered_on : Outcome → (ws ds sws sds : List ℕ) → TurnedOn
answered_on o ws ds sws sds =
    record {
      end = answered o.said;
      looked = o.looked;
      counts = o.counts;
      words = words_after o.change ws;
      deltas = deltas_after o.change ds;
      spare_words = sws;
      spare_deltas = sds;
    }

unfoldable pub turn_on : (cells : ℕ) → Hasher → (size live h k v : ℕ) → (ws ds sws sds : List ℕ) → TurnedOn
turn_on cells hasher size live h k v ws ds sws sds =
    let o = insert_stored size null (view ws ds) (value_in ws) (counts_of live) h k v in
    cond (is_full o.said)
    (full_on cells hasher size live o.looked (carried_by o.said) ws ds sws sds)
    (answered_on o ws ds sws sds)

-- ---- the halves by their place

-- the half in use comes first, then the other
abbrev pub Sides : rule.Half → (lws lds uws uds : List ℕ) → (cells S : ℕ) → Type 0
Sides rule.lower lws lds uws uds cells S = Halved lws lds uws uds cells S
Sides rule.upper lws lds uws uds cells S = Halved uws uds lws lds cells S

abbrev pub swapped : TurnedOn → TurnedOn
swapped t =
    record {
      end = t.end;
      looked = t.looked;
      counts = t.counts;
      words = t.spare_words;
      deltas = t.spare_deltas;
      spare_words = t.words;
      spare_deltas = t.deltas;
    }

abbrev pub turn_sides : rule.Half → (cells : ℕ) → Hasher → (size live h k v : ℕ) → (lws lds uws uds : List ℕ) → TurnedOn
turn_sides rule.lower cells hasher size live h k v lws lds uws uds = turn_on cells hasher size live h k v lws lds uws uds
turn_sides rule.upper cells hasher size live h k v lws lds uws uds = swapped (turn_on cells hasher size live h k v uws uds lws lds)
