-- `cells::clear::clear_words` meets its contract. Assumes nothing.
use Rattle.std.proofs.Common.{◌≡◌, ◌*◌, ◌++◌, length, drop}
use Rattle.cells.specs.Layout.{fresh_words}
use Rattle.cells.proofs.clear.clear_words.Given as goal

abbrev pub invariant-loop-i : goal.invariant-loop-i
invariant-loop-i l = (length l.words ≡ length l.initial.words) × (l.words ≡ fresh_words l.i ++ drop (3 * l.i) l.initial.words)
