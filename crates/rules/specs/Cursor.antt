-- The cursor, and setting a value at a cell. Checks run 1, 3; neither call walks, so neither reports a count.
use Rattle.std.specs.Prelude.{Bool, cond, ℕ, zero, suc, ◌+◌, ◌-◌, max, ltb}
use Rattle.rules.specs.Cells.{Params, Cells, Counts, Lent, is_live, shape, offered}
use Rattle.rules.specs.Answers.{absent, replaced, store, Outcome, leave, unless}

-- ---- the cursor

-- it is a position: the index of the cell to look at next. It starts at cell 0.
abbrev pub start : ℕ
start = 0

-- the index of a cell, or none
pub data Next : Type 0 where
  at : ℕ → Next
  none : Next

-- the first of n numbers from i on that passes a test
unfoldable pub first_from : (ℕ → Bool) → (n i : ℕ) → Next
first_from test zero i = none
first_from test (suc n) i = let rest = first_from test n (i + 1) in cond (test i) (at i) rest

-- the next live cell in index order: from position S on there is none
abbrev pub next_live : Params → Cells → (ℕ → ℕ) → ℕ → Next
next_live p cs value position = first_from (is_live p cs value) (p.S - position) position

-- what a step says: a cell by index, key and value, the end, or a refusal by its number
pub data StepSaid : Type 0 where
  next : (i k v : ℕ) → StepSaid
  end : StepSaid
  refusal : ℕ → StepSaid

-- and the cursor afterwards
pub record Step : Type 0 where
  pub said : StepSaid
  pub position : ℕ

-- past the cell; at the end the cursor stands at S, or stays where it is beyond S
abbrev pub step_to : (S : ℕ) → Cells → (ℕ → ℕ) → ℕ → Next → Step
step_to S cs value position (at i) = record { said = next i (cs.key i) (value i); position = i + 1 }
step_to S cs value position none = record { said = end; position = max position S }

unfoldable pub step_in : Params → Cells → (ℕ → ℕ) → ℕ → Step
step_in p cs value position = step_to p.S cs value position (next_live p cs value position)

-- a check: where it gives a number, that is the refusal, and the cursor stays
abbrev pub step_unless : ℕ → ℕ → Step → Step
step_unless zero position s = s
step_unless (suc n) position s = record { said = refusal (suc n); position = position }

unfoldable pub step : Lent → ℕ → Step
step l position = step_unless (shape l) position (step_in l.params l.cells l.value position)

-- ---- setting a value

-- 1: the index of a cell is below S
abbrev pub indexed : (S i : ℕ) → ℕ
indexed S i = cond (ltb i S) 0 1

-- at a cell not live Absent, and nothing changes; else the value is replaced
unfoldable pub set_at : Params → Cells → (ℕ → ℕ) → Counts → (i v : ℕ) → Outcome
set_at p cs value c i v =
    cond (is_live p cs value i) (record { said = replaced (value i); looked = 0; counts = c; change = store i v }) (leave absent 0 c)

unfoldable pub set_value : Lent → (i v : ℕ) → Outcome
set_value l i v =
    let p = l.params in
    let c = l.counts in
    unless (shape l) c (unless (indexed p.S i) c (unless (offered p.null v) c (set_at p l.cells l.value c i v)))
