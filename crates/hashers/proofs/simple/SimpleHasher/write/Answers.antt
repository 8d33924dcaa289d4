-- `hashers::SimpleHasher::write` meets its contract. Assumes nothing.
use mathlib.Core.Path.{sym, ap, ◌∙◌}
use Rattle.util.specs.Bytes.{said}
use Rattle.hashers.proofs.Replaced.{of_number, of_length}
use Rattle.hashers.proofs.simple.SimpleHasher.write.Goals as goal

pub returns-in-Ok : goal.returns-in-Ok
returns-in-Ok c = of_number _ _ _ _ (ap said (sym c.in-Ok.is) ∙ c.load_u64_le.ensures)

pub returns-in-Err : goal.returns-in-Err
returns-in-Err c = of_length _ _ _ (ap said (sym c.in-Err.is) ∙ c.load_u64_le.ensures)
