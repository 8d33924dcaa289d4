-- `hashmap::clear` meets its contract. Assumes nothing.
use mathlib.Core.Path.{sym, ◌∙◌}
use Rattle.cells.proofs.Shapes.{exact_lengths}
use Rattle.hashmap.proofs.Cleared.{clears, keeps}
use Rattle.hashmap.proofs.clear.Goals as goal

pub clear_words-requires : goal.clear_words-requires
clear_words-requires c = (exact_lengths _ _ (sym c.is_shaped.ensures ∙ c.if-is_shaped.true)).0

pub returns-then-is_shaped : goal.returns-then-is_shaped
returns-then-is_shaped c = clears _ _ _ (sym c.is_shaped.ensures ∙ c.if-is_shaped.true) _ _ c.clear_words.ensures c.clear_deltas.ensures

pub returns : goal.returns
returns c = keeps _ _ _ (sym c.is_shaped.ensures ∙ c.if-is_shaped.false)
