-- `hashers::FnvHasher::write` meets its contract: what is left, from the state reached, gives the whole. Assumes nothing.
use mathlib.Core.Path.{◌≡◌}
use lib.ListN.{drop}
use Rattle.hashers.specs.Published.{fnv1a}
use Rattle.hashers.proofs.fnv.FnvHasher.write.Given as goal

abbrev pub invariant-loop-byte : goal.invariant-loop-byte
invariant-loop-byte l = fnv1a l.state (drop l.byte-index l.bytes) ≡ fnv1a l.initial.state l.bytes
