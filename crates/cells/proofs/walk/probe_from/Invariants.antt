-- `cells::walk::probe_from` meets its contract: at each turn the probe is what is left of it. Assumes nothing.
use Rattle.steps.proofs.Probing.{Probing}
use Rattle.cells.specs.Layout.{hash_in}
use Rattle.cells.proofs.walk.probe_from.Given as goal

abbrev pub invariant-loop-d : goal.invariant-loop-d
invariant-loop-d l = Probing l.size (hash_in l.words) l.tail l.count l.d
