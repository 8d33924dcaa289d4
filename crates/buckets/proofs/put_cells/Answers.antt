-- `buckets::put_cells` meets its contract: storing the cells that are left gives what is promised. Assumes nothing.
use Rattle.std.proofs.Common.{◌*◌, arith}
use native.Mathlib.Nat.{add-zero}
use Rattle.buckets.proofs.Stores.{cells_stored}
use Rattle.buckets.proofs.put_cells.Goals as goal

pub loop-j-init : goal.loop-j-init
loop-j-init c = rw (add-zero (4 * c.args.b)) (cells_stored c.args.words.now c.args.b c.args.bucket (omega arith))
