-- `hashiter::step_in` meets its contract: from i on a step says what it says from the position given. Assumes nothing.
use Prim.Native.Nat.{◌≤◌, max}
use Rattle.hashiter.proofs.Stepping.{Going}
use Rattle.hashiter.proofs.step_in.Given as goal

abbrev pub invariant-loop-i : goal.invariant-loop-i
invariant-loop-i l = Going l.words l.size l.position l.i × (l.i ≤ max l.position l.size)
