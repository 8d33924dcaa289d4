-- A run of calls of Cursor::step, each made with the cursor that the one before left.
use Rattle.std.specs.Prelude.{List, [], ◌∷◌, map, ◌≡◌}
use Rattle.rules.specs.Cells.{Lent}
use Rattle.rules.specs.Cursor.{StepSaid, step}
use Rattle.hashiter.specs.Answers.{step_said, stepped}
use Rattle.hashiter.specs.declared.Cursor.{Cursor}
use Rattle.hashiter.specs.declared.Stepped.{Stepped}

-- each result meets its contract
abbrev pub Called : Lent → Cursor → List Stepped → Type 0
Called l c [] = Unit {0}
Called l c (r ∷ rs) = (stepped r ≡ step l c.position) × Called l r.cursor rs

-- what they said
abbrev pub said_by : List Stepped → List StepSaid
said_by rs = map (λ (r : Stepped). step_said r.said) rs
