-- `cells::insert::insert_met` meets its contract. Assumes nothing.
use Rattle.std.proofs.Common.{refl, ◌∙◌}
use Rattle.steps.proofs.Branches.{met_removed, met_live, settle_revived, settle_revived_out}
use Rattle.cells.proofs.Doing.{did, left_all}
use Rattle.cells.proofs.Placing.{met_cell}
use Rattle.cells.proofs.insert.insert_met.Goals as goal

pub returns-then-live-size : goal.returns-then-live-size
returns-then-live-size c = λ ds. record { done = did _ _ _ _ (met_removed _ _ _ _ _ _ _ _ c.value_at-old.ensures c.if-old.true ∙ settle_revived _ _ _ _ c.if-live-size.true) c.store_value.ensures refl; cell = met_cell _ _ _ _ _ _ _ }

pub returns-then-old : goal.returns-then-old
returns-then-old c = λ ds. record { done = left_all _ _ _ (met_removed _ _ _ _ _ _ _ _ c.value_at-old.ensures c.if-old.true ∙ settle_revived_out _ _ _ _ c.if-live-size.false); cell = met_cell _ _ _ _ _ _ _ }

pub returns : goal.returns
returns c = λ ds. record { done = did _ _ _ _ (met_live _ _ _ _ _ _ _ _ c.value_at-old.ensures c.if-old.false) c.store_value-2.ensures refl; cell = met_cell _ _ _ _ _ _ _ }
