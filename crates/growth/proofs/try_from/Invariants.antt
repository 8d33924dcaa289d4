-- `growth::try_from` meets its contract. Assumes nothing.
use Prim.Native.Nat.{◌+◌, ◌-◌}
use Rattle.growth.proofs.Tries.{Trying}
use Rattle.growth.proofs.try_from.Given as goal

abbrev pub invariant-loop-to : goal.invariant-loop-to
invariant-loop-to l = Trying l.cells l.size l.live l.from l.first l.to l.initial.words l.initial.deltas l.words l.deltas

abbrev pub decreases-loop-to : goal.decreases-loop-to
decreases-loop-to l = l.cells + 1 - l.to
