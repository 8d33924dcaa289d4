-- `hashiter::Cursor::step` meets its contract. Assumes nothing.
use Rattle.steps.proofs.Branches.{shape_fails, shape_passes}
use Rattle.cells.specs.Layout.{lent}
use Rattle.cells.proofs.Shapes.{sized, unsized, sized_shape}
use Rattle.hashiter.proofs.Stepping.{step_shape, step_passed}
use Rattle.hashiter.proofs.Cursor.step.Goals as goal

pub returns-in_default : goal.returns-in_default
returns-in_default c = step_shape _ _ (shape_fails (lent c.args.words.now c.args.deltas.now c.args.table) (unsized _ _ c.in_default.ensures))

pub step_in-requires : goal.step_in-requires
step_in-requires c = (sized_shape _ _ _ c.in-Some.ensures).0.words

pub returns : goal.returns
returns c =
    let s = sized _ _ c.in-Some.ensures in
    let l = lent c.args.words.now c.args.deltas.now c.args.table in
    let passed = step_passed l c.args.self.position (shape_passes l s.0) in
    rw (← passed, ← s.1) (c.step_in.ensures c.args.table.hasher c.args.deltas.now)
