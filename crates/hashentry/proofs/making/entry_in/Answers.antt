-- `hashentry::making::entry_in` meets its contract. Assumes nothing.
use mathlib.Core.Path.{ap}
use Rattle.cells.specs.Workers.{stop_of}
use Rattle.hashentry.proofs.Made.{make_ends, make_removed, make_live}
use Rattle.hashentry.proofs.making.entry_in.Goals as goal

pub returns-then-value_at : goal.returns-then-value_at
returns-then-value_at c = make_removed _ _ _ _ _ _ c.walk_to.ensures _ _ _ (ap stop_of c.in-Met.is) c.cell_of-index.ensures c.value_at.ensures c.if-value_at.true

pub returns-else-value_at : goal.returns-else-value_at
returns-else-value_at c = make_live _ _ _ _ _ _ c.walk_to.ensures _ _ _ (ap stop_of c.in-Met.is) c.cell_of-index.ensures c.value_at.ensures c.if-value_at.false

pub returns-in-Tail : goal.returns-in-Tail
returns-in-Tail c = make_ends _ _ _ _ _ _ c.walk_to.ensures _ (ap stop_of c.in-Tail.is)

pub returns-in-Broken : goal.returns-in-Broken
returns-in-Broken c = make_ends _ _ _ _ _ _ c.walk_to.ensures _ (ap stop_of c.in-Broken.is)
