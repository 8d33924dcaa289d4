-- `growth::try_sizes` meets its contract. Assumes nothing.
use Rattle.growth.proofs.Tries.{none, some_fit}
use Rattle.growth.proofs.try_sizes.Goals as goal

pub returns-then-cells-first : goal.returns-then-cells-first
returns-then-cells-first c = none c.args.cells c.args.size c.args.live c.args.from.now c.args.first _ _ c.if-cells-first.true

pub returns : goal.returns
returns c = some_fit c.args.cells c.args.size c.args.live c.args.from.now c.args.first _ _ _ c.if-cells-first.false c.try_from.ensures
