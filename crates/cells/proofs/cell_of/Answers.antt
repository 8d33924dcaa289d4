-- `cells::cell_of` meets its contract: the mask of a size is the remainder. Assumes nothing.
use Rattle.std.proofs.Common.{arith}
use Rattle.steps.proofs.Sizes.{mask, size_least}
use Rattle.cells.proofs.cell_of.Goals as goal

pub overflow_sub-result : goal.overflow_sub-result
overflow_sub-result c = omega (arith, size_least _ c.requires)

pub returns : goal.returns
returns c = mask _ _ c.requires
