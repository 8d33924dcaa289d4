-- `hashmap::find_in` meets its contract. Assumes nothing.
use mathlib.Core.Path.{ap}
use Rattle.steps.proofs.Branches.{find_ends, find_removed, find_live}
use Rattle.cells.specs.Workers.{stop_of}
use Rattle.cells.proofs.Shapes.{in_words}
use Rattle.hashmap.proofs.find_in.Goals as goal

pub value_at-value-requires : goal.value_at-value-requires
value_at-value-requires c = in_words c.args.table.now.shaped _ c.cell_of.ensures

pub returns-then-value : goal.returns-then-value
returns-then-value c = find_removed _ _ _ _ _ _ c.walk_to-walked.ensures _ _ _ (ap stop_of c.in-Met.is) c.cell_of.ensures c.value_at-value.ensures c.if-value.true

pub returns-else-value : goal.returns-else-value
returns-else-value c = find_live _ _ _ _ _ _ c.walk_to-walked.ensures _ _ _ (ap stop_of c.in-Met.is) c.cell_of.ensures c.value_at-value.ensures c.if-value.false

pub returns-in-Tail : goal.returns-in-Tail
returns-in-Tail c = find_ends _ _ _ _ _ _ c.walk_to-walked.ensures _ (ap stop_of c.in-Tail.is)

pub returns-in-Broken : goal.returns-in-Broken
returns-in-Broken c = find_ends _ _ _ _ _ _ c.walk_to-walked.ensures _ (ap stop_of c.in-Broken.is)
