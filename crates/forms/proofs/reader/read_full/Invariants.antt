use Rattle.std.proofs.Common.{◌≤◌, length}
use Rattle.forms.proofs.reader.read_full.Given as goal

-- what was read stands within the buffer
abbrev pub invariant-loop : goal.invariant-loop
invariant-loop g l = l.n ≤ length l.buffer
