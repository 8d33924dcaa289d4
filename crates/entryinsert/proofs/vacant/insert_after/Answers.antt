-- `entryinsert::vacant::insert_after` meets its contract. Assumes nothing.
use Rattle.steps.proofs.Branches.{stored_home}
use Rattle.cells.proofs.Placing.{inserted_as}
use Rattle.entryinsert.proofs.vacant.insert_after.Goals as goal

pub returns-then-hash_at-eq0 : goal.returns-then-hash_at-eq0
returns-then-hash_at-eq0 c = inserted_as _ _ (stored_home _ _ _ _ _ _ _ _ _ _ c.cell_of-home.ensures c.hash_at.ensures c.if-hash_at-eq0.true) (c.insert_home.ensures c.args.deltas.now)
