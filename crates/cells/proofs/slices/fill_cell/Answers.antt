-- `cells::slices::fill_cell` meets its contract. Assumes nothing.
use Rattle.std.proofs.Common.{arith, length-set}
use Rattle.cells.proofs.slices.fill_cell.Goals as goal

pub bounds-words-i-2 : goal.bounds-words-i-2
bounds-words-i-2 c = simp length-set (omega arith)
