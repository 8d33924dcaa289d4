-- `cells::is_size` meets its contract. Assumes nothing.
use Rattle.std.proofs.Common.{sym, arith}
use Rattle.steps.proofs.Sizes.{size_test, no_size, size_least, size_greatest}
use Rattle.cells.proofs.is_size.Goals as goal

pub returns-then-size-lt-LEAST_SIZE : goal.returns-then-size-lt-LEAST_SIZE
returns-then-size-lt-LEAST_SIZE c = sym (no_size _ (λ e. omega (arith, size_least _ e)))

pub returns-then-size-gt-GREATEST_SIZE : goal.returns-then-size-gt-GREATEST_SIZE
returns-then-size-gt-GREATEST_SIZE c = sym (no_size _ (λ e. omega (arith, size_greatest _ e)))

pub returns : goal.returns
returns c = size_test _ (omega arith) (omega arith)
