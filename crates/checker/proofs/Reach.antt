-- Within the cells that are lent the deltas of each lie in the slice. Assumes nothing.
use Rattle.std.proofs.Common.{ℕ, ◌<◌, length}
use Rattle.cells.specs.Layout.{second_at}
use Rattle.cells.proofs.Shapes.{deltas_hold}
use Rattle.checker.specs.declared.Cells.{Cells}

pub delta_there : (c : Cells) (i : ℕ) → i < c.lent.size → second_at i < length c.lent.deltas.now
delta_there c i h = deltas_hold c.lent.size c.lent.deltas.now i c.lent.shaped.size c.lent.shaped.deltas h
