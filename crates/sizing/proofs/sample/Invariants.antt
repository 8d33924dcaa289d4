-- `sizing::sample` meets its contract: after i turns n counts the first i positions. Assumes nothing.
use Rattle.sizing.proofs.Counting.{Counting}
use Rattle.sizing.proofs.sample.Given as goal

abbrev pub invariant-loop-i : goal.invariant-loop-i
invariant-loop-i l = Counting l.words l.size l.carried l.start l.n l.i
