-- `growth::grow_in` meets its contract. Assumes nothing.
use mathlib.Core.Path.{◌≡◌}
use Prim.Native.Nat.{◌-◌}
use Rattle.rules.specs.Growing.{most_rounds}
use Rattle.parts.specs.Halves.{half_of}
use Rattle.growth.proofs.Loop.{Turning}
use Rattle.growth.proofs.grow_in.Given as goal

abbrev pub invariant-loop-said : goal.invariant-loop-said
invariant-loop-said l =
    (l.growing.table ≡ l.initial.growing.table)
    × Turning l.cells l.cell.hash l.cell.key l.cell.value l.growing.table.live l.initial.growing.size (half_of l.initial.growing.half) l.initial.lower_words l.initial.lower_deltas l.initial.upper_words l.initial.upper_deltas (half_of l.growing.half) l.growing.size l.moves l.lower_words l.lower_deltas l.upper_words l.upper_deltas

abbrev pub decreases-loop-said : goal.decreases-loop-said
decreases-loop-said l =
    most_rounds - l.moves
