-- `hashreads::capacity` meets its contract. Assumes nothing.
use mathlib.Core.Path.{sym, ◌∙◌}
use Rattle.hashreads.specs.Answers.{capacity_rule}
use Rattle.hashreads.proofs.capacity.Goals as goal

pub returns-then-is_shaped : goal.returns-then-is_shaped
unfolding capacity_rule
returns-then-is_shaped c = rw (sym c.is_shaped.ensures ∙ c.if-is_shaped.true)

pub returns : goal.returns
unfolding capacity_rule
returns c = rw (sym c.is_shaped.ensures ∙ c.if-is_shaped.false)
