-- `hashmap::remove_in` meets its contract. Assumes nothing.
use mathlib.Core.Path.{refl, ap}
use Rattle.steps.proofs.Branches.{remove_ends, remove_removed, remove_done_lem, remove_none_left}
use Rattle.cells.specs.Workers.{stop_of}
use Rattle.cells.proofs.Shapes.{in_words}
use Rattle.cells.proofs.Doing.{did, left_all}
use Rattle.hashmap.proofs.remove_in.Goals as goal

pub value_at-old-requires : goal.value_at-old-requires
value_at-old-requires c = in_words c.requires _ c.cell_of-i.ensures

pub returns-then-old : goal.returns-then-old
returns-then-old c =
    left_all _ _ _ (remove_removed _ _ _ _ _ _ _ c.walk_to-walked.ensures _ _ _ (ap stop_of c.in-Met.is) c.cell_of-i.ensures c.value_at-old.ensures c.if-old.true)

pub returns-then-live-eq0 : goal.returns-then-live-eq0
returns-then-live-eq0 c =
    left_all _ _ _
    (remove_none_left _ _ _ _ _ _ _ c.walk_to-walked.ensures _ _ _ (ap stop_of c.in-Met.is) c.cell_of-i.ensures c.value_at-old.ensures c.if-old.false c.if-live-eq0.true)

pub store_value-requires : goal.store_value-requires
store_value-requires c = in_words c.requires _ c.cell_of-i.ensures

pub returns-else-live-eq0 : goal.returns-else-live-eq0
returns-else-live-eq0 c =
    did _ _ _ _
    (remove_done_lem _ _ _ _ _ _ _ c.walk_to-walked.ensures _ _ _ (ap stop_of c.in-Met.is) c.cell_of-i.ensures c.value_at-old.ensures c.if-old.false c.if-live-eq0.false)
    c.store_value.ensures
    refl

pub returns-in-Tail : goal.returns-in-Tail
returns-in-Tail c = left_all _ _ _ (remove_ends _ _ _ _ _ _ _ c.walk_to-walked.ensures _ (ap stop_of c.in-Tail.is))

pub returns-in-Broken : goal.returns-in-Broken
returns-in-Broken c = left_all _ _ _ (remove_ends _ _ _ _ _ _ _ c.walk_to-walked.ensures _ (ap stop_of c.in-Broken.is))
