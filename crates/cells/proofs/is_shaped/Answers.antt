-- `cells::is_shaped` meets its contract. Assumes nothing.
use Rattle.std.proofs.Common.{sym, ◌∙◌, eq-eqb, ne_eqb}
use Rattle.cells.specs.Layout.{is_shaped}
use Rattle.cells.proofs.is_shaped.Goals as goal

pub returns-then-words-size : goal.returns-then-words-size
unfolding is_shaped
returns-then-words-size c = rw (sym c.is_size.ensures ∙ c.if-is_size.true, eq-eqb _ _ c.if-words-size.true)

pub returns-else-words-size : goal.returns-else-words-size
unfolding is_shaped
returns-else-words-size c = rw (sym c.is_size.ensures ∙ c.if-is_size.true, ne_eqb _ _ c.if-words-size.false)

pub returns-else-is_size : goal.returns-else-is_size
unfolding is_shaped
returns-else-is_size c = rw (sym c.is_size.ensures ∙ c.if-is_size.false)
