-- `buckets::put_cells` meets its contract: storing the cells that are left gives what is promised. Assumes nothing.
use Rattle.std.proofs.Common.{◌≡◌, ◌+◌, ◌*◌, ◌-◌}
use Rattle.buckets.specs.Buckets.{listed, cell_in, words_with}
use Rattle.buckets.proofs.Stores.{fills}
use Rattle.buckets.proofs.put_cells.Given as goal

abbrev pub invariant-loop-j : goal.invariant-loop-j
invariant-loop-j l = fills l.words (4 * l.b + l.j) (listed (4 - l.j) (λ m. cell_in l.fn.bucket (l.j + m))) ≡ words_with l.initial.words l.b l.fn.bucket
