-- `cells::insert::insert_home` meets its contract. Assumes nothing.
use Rattle.std.proofs.Common.{refl}
use Rattle.steps.proofs.Branches.{settle_new, settle_new_out}
use Rattle.cells.proofs.Doing.{did, left_all}
use Rattle.cells.proofs.Placing.{settled}
use Rattle.cells.proofs.insert.insert_home.Goals as goal

pub returns-then-live-size : goal.returns-then-live-size
returns-then-live-size c = λ ds. record { done = did _ _ _ _ (settle_new _ _ _ _ c.if-live-size.true) c.fill_cell.ensures refl; cell = settled _ _ _ _ _ _ refl }

pub returns : goal.returns
returns c = λ ds. record { done = left_all _ _ _ (settle_new_out _ _ _ _ c.if-live-size.false); cell = settled _ _ _ _ _ _ refl }
