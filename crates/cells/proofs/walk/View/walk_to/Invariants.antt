-- `cells::walk::View::walk_to` meets its contract: at each turn the walk is what is left of it. Assumes nothing.
use Rattle.std.proofs.Common.{◌-◌}
use Rattle.steps.proofs.Walking.{Going}
use Rattle.cells.specs.Layout.{view}
use Rattle.cells.proofs.walk.View.walk_to.Given as goal

abbrev pub invariant-loop-delta : goal.invariant-loop-delta
invariant-loop-delta l = Going l.size (view l.words l.deltas) l.hash l.key l.at l.looked l.delta

abbrev pub decreases-loop-delta : goal.decreases-loop-delta
decreases-loop-delta l = l.size - l.looked
