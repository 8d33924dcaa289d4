-- Where a table is, and what the rules' outcomes make of it there.
use Rattle.std.specs.Prelude.{List, ℕ}
use Rattle.hashers.specs.declared.Hasher.{Hasher}
use Rattle.rules.specs.Cells.{Lent}
use Rattle.rules.specs.Answers.{Outcome}
use Rattle.rules.specs.Moves.{Ended, all, stop, MoveOutcome, move}
use Rattle.rules.specs.Growing as rule
use Rattle.rules.specs.Growing.{LentHalves, in_use, GrowOutcome}
use Rattle.cells.specs.Layout.{size_in, is_shaped, left_by}
use Rattle.moving.specs.Slices.{clear_held, words_become, deltas_become}
use Rattle.hashmap.specs.Answers as cleared
use Rattle.hashmap.specs.Answers.{Cleared}
use Rattle.parts.specs.Halves.{lent_halves}
use Rattle.halves.specs.Answers as halves
use Rattle.halves.specs.Answers.{Four, HalvesLeft, HalvesCleared, halves_by}
use Rattle.parts.specs.declared.Half.{Half}
use Rattle.parts.specs.declared.Half.TheVariants.{Lower, Upper}
use Rattle.parts.specs.declared.Growing.{Growing}
use Rattle.growth.specs.Growth.{Grown, grow_left}
use Rattle.order.specs.Runs.{Memory, lent_of, memory_of}

-- two halves and the record of a growing table
pub record TwoHalves : Type 0 where
  pub slices : Four
  pub growing : Growing

-- a table is alone in two slices, or in the front of one of two halves
pub data Store : Type 0 where
  alone : Memory → Store
  halved : TwoHalves → Store

abbrev pub lent_two : TwoHalves → LentHalves
lent_two h = lent_halves h.slices.lower_words h.slices.lower_deltas h.slices.upper_words h.slices.upper_deltas h.growing

-- the table, as it is lent
abbrev pub table_in : Store → Lent
table_in (alone m) = lent_of m
table_in (halved h) = in_use (lent_two h)

abbrev pub hasher_in : Store → Hasher
hasher_in (alone m) = m.table.hasher
hasher_in (halved h) = h.growing.table.hasher

-- live, as the record has it
abbrev pub live_of : Store → ℕ
live_of (alone m) = m.table.live
live_of (halved h) = h.growing.table.live

-- ---- after an outcome of a call on the table

abbrev pub two_left : HalvesLeft → TwoHalves
two_left x = record { slices = x.left; growing = x.growing }

abbrev pub left : Store → Outcome → Store
left (alone m) o = alone (memory_of (left_by o m.table m.words m.deltas))
left (halved h) o =
    halved (two_left (halves_by o h.growing h.slices.lower_words h.slices.lower_deltas h.slices.upper_words h.slices.upper_deltas))

-- ---- after a plain move into two slices

abbrev pub move_from : Store → (ws ds : List ℕ) → MoveOutcome
move_from s ws ds = move (table_in s) (is_shaped ws ds) (size_in ds) (clear_held (size_in ds))

-- one that succeeds makes its destination the table from then on, with a record of the same hasher; a refused one leaves the source
abbrev pub moved_to : Store → (ws ds : List ℕ) → MoveOutcome → Ended → Store
moved_to s ws ds o (all c) =
    alone
    (record {
      words = words_become (size_in ds) o.to ws;
      deltas = deltas_become (size_in ds) o.to ds;
      table = record { hasher = hasher_in s; live = c.live };
    })
moved_to s ws ds o (stop n x) = s

-- ---- after a clearing

abbrev pub memory_cleared : Memory → Cleared → cleared.Clear → Memory
memory_cleared m c (cleared.cleared t) = record { words = c.words; deltas = c.deltas; table = t }
memory_cleared m c (cleared.refuses n) = record { words = c.words; deltas = c.deltas; table = m.table }

abbrev pub two_cleared : TwoHalves → HalvesCleared → halves.Clear → TwoHalves
two_cleared h c (halves.cleared g) = record { slices = c.left; growing = g }
two_cleared h c (halves.refuses n) = record { slices = c.left; growing = h.growing }

-- ---- after a growing insert

abbrev pub half_in : rule.Half → Half
half_in rule.lower = Lower
half_in rule.upper = Upper

abbrev pub grown_to : Hasher → Grown → TwoHalves
grown_to hasher x =
    record {
      slices = halves.four x.lower_words x.lower_deltas x.upper_words x.upper_deltas;
      growing = record { table = record { hasher = hasher; live = x.counts.live }; size = x.size; half = half_in x.half };
    }

abbrev pub two_grown : TwoHalves → GrowOutcome → TwoHalves
two_grown h o =
    let x = grow_left o h.growing h.slices.lower_words h.slices.lower_deltas h.slices.upper_words h.slices.upper_deltas in
    grown_to x.hasher x.grown

-- what a move leaves in its destination where it fails, with a record of live 0 and the hasher of your choice
abbrev pub failed_to : Store → (ws ds : List ℕ) → Hasher → Store
failed_to s ws ds hasher =
    alone
    (record {
      words = words_become (size_in ds) (move_from s ws ds).to ws;
      deltas = deltas_become (size_in ds) (move_from s ws ds).to ds;
      table = record { hasher = hasher; live = 0 };
    })
