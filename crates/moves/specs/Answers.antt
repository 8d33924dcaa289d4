-- Each case of a move's answer, by 01's number and values; and what the move left in its destination.
use Rattle.std.specs.Prelude.{List, [], ◌∷◌, ℕ, Result, Ok, Err}
use Rattle.hashers.specs.declared.Hasher.{Hasher}
use Rattle.rules.specs.Moves.{Ended, all, stop, MoveOutcome, move}
use Rattle.cells.specs.Layout.{lent, is_shaped, size_in}
use Rattle.cells.specs.declared.Table.{Table}
use Rattle.moving.specs.Slices.{clear_held, words_become, deltas_become}
use Rattle.moves.specs.declared.MoveError.{MoveError}
use Rattle.moves.specs.declared.MoveError.TheVariants as errors

-- the record of the new table, or a refusal by its number, with what it carries
pub data Move : Type 0 where
  moved : Table → Move
  refuses : ℕ → List ℕ → Move

abbrev pub move_failed : MoveError → Move
move_failed errors.Shape = refuses 1 []
move_failed (errors.Full at) = refuses 4 (at.position ∷ [])
move_failed errors.Broken = refuses 5 []

abbrev pub move_said : Result Table MoveError → Move
move_said (Ok t) = moved t
move_said (Err e) = move_failed e

-- the new record has the hasher of the source's
abbrev pub end_said : Hasher → Ended → Move
end_said hasher (all c) = moved (record { hasher = hasher; live = c.live })
end_said hasher (stop n l) = refuses n l

pub record MoveLeft : Type 0 where
  pub said : Move
  pub words : List ℕ
  pub deltas : List ℕ

abbrev pub move_left : Result Table MoveError → List ℕ → List ℕ → MoveLeft
move_left r ws ds = record { said = move_said r; words = ws; deltas = ds }

-- what an outcome of the rule says, and makes of a destination of C cells
abbrev pub move_left_by : Hasher → ℕ → MoveOutcome → List ℕ → List ℕ → MoveLeft
move_left_by hasher C o ws ds =
    record { said = end_said hasher o.ended; words = words_become C o.to ws; deltas = deltas_become C o.to ds }

-- the rule on what is lent: the source with its record, and the destination
abbrev pub move_rule : List ℕ → List ℕ → Table → List ℕ → List ℕ → MoveLeft
move_rule fws fds t ws ds =
    move_left_by t.hasher (size_in ds) (move (lent fws fds t) (is_shaped ws ds) (size_in ds) (clear_held (size_in ds))) ws ds
