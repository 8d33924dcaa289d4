-- `checker::Cells::met_itself` meets its contract. Assumes nothing.
use Rattle.std.proofs.Common.{ℕ, eqb, ap, ◌∙◌}
use Rattle.cells.specs.Layout.{view}
use Rattle.cells.specs.Workers.{stop_of}
use Rattle.checker.proofs.Meets.{stops_so}
use Rattle.checker.proofs.Cells.met_itself.Goals as goal

pub returns-in-Met : goal.returns-in-Met
returns-in-Met c = ap (λ (j : ℕ). eqb j c.args.i) c.cell_of.ensures ∙ stops_so _ _ _ _ _ c.walk_to.ensures c.hash_at-hash.ensures c.key_at-key.ensures _ (ap stop_of c.in-Met.is)

pub returns-in-Tail : goal.returns-in-Tail
returns-in-Tail c = stops_so _ (view c.args.self.now.lent.words.now c.args.self.now.lent.deltas.now) _ _ _ c.walk_to.ensures c.hash_at-hash.ensures c.key_at-key.ensures _ (ap stop_of c.in-Tail.is)

pub returns-in-Broken : goal.returns-in-Broken
returns-in-Broken c = stops_so _ (view c.args.self.now.lent.words.now c.args.self.now.lent.deltas.now) _ _ _ c.walk_to.ensures c.hash_at-hash.ensures c.key_at-key.ensures _ (ap stop_of c.in-Broken.is)
