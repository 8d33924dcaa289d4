-- Each case of each answer, by 01's number and values; and what a call left.
use Rattle.std.specs.Prelude.{List, [], ℕ, Option, Some, None, Result, Ok, Err}
use Rattle.rules.specs.Answers.{Said, absent, replaced, refused}
use Rattle.rules.specs.Cursor as rule
use Rattle.cells.specs.Layout.{Done, counts_of}
use Rattle.cells.specs.declared.ShapeError.{ShapeError}
use Rattle.hashiter.specs.declared.LiveCell.{LiveCell}
use Rattle.hashiter.specs.declared.Stepped.{Stepped}
use Rattle.hashiter.specs.declared.SetError.{SetError}
use Rattle.hashiter.specs.declared.SetError.TheVariants as sets

abbrev pub step_said : Result (Option LiveCell) ShapeError → rule.StepSaid
step_said (Ok (Some c)) = rule.next c.index c.key c.value
step_said (Ok None) = rule.end
step_said (Err e) = rule.refusal 1

abbrev pub stepped : Stepped → rule.Step
stepped r = record { said = step_said r.said; position = r.cursor.position }

abbrev pub set_said : Result (Option ℕ) SetError → Said
set_said (Ok (Some old)) = replaced old
set_said (Ok None) = absent
set_said (Err sets.Shape) = refused 1 []
set_said (Err sets.Null) = refused 3 []

-- what a setting left: it reports no count, and live stays as it was given
abbrev pub set_done : Result (Option ℕ) SetError → (live : ℕ) → List ℕ → List ℕ → Done
set_done r live ws ds = record { said = set_said r; looked = 0; counts = counts_of live; words = ws; deltas = ds }
