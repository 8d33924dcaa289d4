-- How the growing insert's answers are read, with both halves.
use Rattle.std.specs.Prelude.{List, [], ℕ, length, Result, Ok, Err}
use Rattle.hashers.specs.Keys.{hash_of}
use Rattle.hashers.specs.declared.Hasher.{Hasher}
use Rattle.rules.specs.Cells.{Counts}
use Rattle.rules.specs.Answers.{Said, refused}
use Rattle.rules.specs.Moves.{Became, stays}
use Rattle.rules.specs.Growing as rule
use Rattle.rules.specs.Growing.{GrowOutcome, Round, rounds, most_rounds}
use Rattle.cells.specs.Layout.{null, size_in, counts_of}
use Rattle.cells.specs.Workers.{put_said}
use Rattle.cells.specs.declared.insert.InsertSaid.{InsertSaid}
use Rattle.moving.specs.Slices.{held_in, clear_held, words_become, deltas_become}
use Rattle.parts.specs.Halves.{half_of, of_half}
use Rattle.parts.specs.declared.Growing.{Growing}
use Rattle.growth.specs.declared.GrowError.{GrowError}
use Rattle.growth.specs.declared.GrowError.TheVariants as errors
use Rattle.growth.specs.declared.GrowAnswer.{GrowAnswer}

-- each case by 01's number and with what it carries
abbrev pub grow_failed : GrowError → Said
grow_failed errors.Shape = refused 1 []
grow_failed errors.ZeroHash = refused 2 []
grow_failed errors.Null = refused 3 []
grow_failed errors.Broken = refused 5 []
grow_failed errors.NoRoom = refused 6 []

abbrev pub grow_said : Result InsertSaid GrowError → Said
grow_said (Ok s) = put_said s
grow_said (Err e) = grow_failed e

-- what a growing insert did: its answer, the last walk, the moves, the record, and both halves
pub record Grown : Type 0 where
  pub said : Said
  pub looked : ℕ
  pub moves : ℕ
  pub counts : Counts
  pub size : ℕ
  pub half : rule.Half
  pub lower_words : List ℕ
  pub lower_deltas : List ℕ
  pub upper_words : List ℕ
  pub upper_deltas : List ℕ

-- what became of the lower half and of the upper, from the half in use and the spare one
abbrev pub lower_of : rule.Half → Became → Became → Became
lower_of rule.lower used spare = used
lower_of rule.upper used spare = spare

abbrev pub upper_of : rule.Half → Became → Became → Became
upper_of rule.lower used spare = spare
upper_of rule.upper used spare = used

unfoldable pub grew_from : (cells : ℕ) → GrowOutcome → (lws lds uws uds : List ℕ) → Grown
grew_from cells o lws lds uws uds =
    record {
      said = o.said;
      looked = o.looked;
      moves = length o.moves;
      counts = o.counts;
      size = o.size;
      half = o.half;
      lower_words = words_become cells (lower_of o.half o.used o.spare) lws;
      lower_deltas = deltas_become cells (lower_of o.half o.used o.spare) lds;
      upper_words = words_become cells (upper_of o.half o.used o.spare) uws;
      upper_deltas = deltas_become cells (upper_of o.half o.used o.spare) uds;
    }

-- the rounds of a call, from the halves as they were lent
unfoldable pub rounds_on : (cells : ℕ) → Hasher → (size : ℕ) → rule.Half → (live h k v : ℕ) → (lws lds uws uds : List ℕ) → GrowOutcome
rounds_on cells hasher size half live h k v lws lds uws uds =
    let start : Round =
    record {
      size = size;
      half = half;
      held = held_in (of_half half lws uws) (of_half half lds uds);
      counts = counts_of live;
      used = stays [];
      spare = stays [];
    } in
    rounds cells null (hash_of hasher) (clear_held cells) h k v most_rounds start

-- with the record: the hasher stays
pub record GrownLeft : Type 0 where
  pub grown : Grown
  pub hasher : Hasher

abbrev pub grown_by : GrowAnswer → (lws lds uws uds : List ℕ) → GrownLeft
grown_by r lws lds uws uds =
    record {
      grown =
          record {
            said = grow_said r.said;
            looked = r.looked;
            moves = r.moves;
            counts = counts_of r.growing.table.live;
            size = r.growing.size;
            half = half_of r.growing.half;
            lower_words = lws;
            lower_deltas = lds;
            upper_words = uws;
            upper_deltas = uds;
          };
      hasher = r.growing.table.hasher;
    }

abbrev pub grow_left : GrowOutcome → Growing → (lws lds uws uds : List ℕ) → GrownLeft
grow_left o g lws lds uws uds = record { grown = grew_from (size_in lds) o lws lds uws uds; hasher = g.table.hasher }
