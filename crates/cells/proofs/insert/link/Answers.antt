-- `cells::insert::link` meets its contract. Assumes nothing.
use Rattle.std.proofs.Common.{eq-eqb, ne_eqb}
use Rattle.cells.proofs.Shapes.{cell_lt, deltas_hold}
use Rattle.cells.proofs.insert.link.Goals as goal

pub set_first-requires : goal.set_first-requires
set_first-requires c = (deltas_hold _ c.args.deltas.now _ c.requires.0 c.requires.1 (cell_lt _ _ _ c.requires.0 c.cell_of.ensures), c.requires.2)

pub set_second-requires : goal.set_second-requires
set_second-requires c = (deltas_hold _ c.args.deltas.now _ c.requires.0 c.requires.1 (cell_lt _ _ _ c.requires.0 c.cell_of-else-looked-eq1.ensures), c.requires.2)

pub returns-then-looked-eq1 : goal.returns-then-looked-eq1
returns-then-looked-eq1 c = rw (eq-eqb _ _ c.if-looked-eq1.true, ← c.cell_of.ensures) c.set_first.ensures

pub returns-else-looked-eq1 : goal.returns-else-looked-eq1
returns-else-looked-eq1 c = rw (ne_eqb _ _ c.if-looked-eq1.false, ← c.cell_of-else-looked-eq1.ensures) c.set_second.ensures
