-- `moving::move_cells` meets its contract: at each turn the move is what is left of it. Assumes nothing.
use borrow.Author.Rules.{rules}
use mathlib.Core.Path.{◌∙◌}
use Rattle.moving.specs.Slices.{held_in}
use native.Mathlib.Omega.{arith}
use Rattle.moving.proofs.Held.{shaped_as}
use Rattle.moving.proofs.Moving.{left_on, left_stop, left_end}
use Rattle.moving.proofs.move_cells.Goals as goal

pub loop-i-preserved : goal.loop-i-preserved
loop-i-preserved c = (
  c.move_cell.auto.words ∙ c.loop-i.invariant.0,
  c.move_cell.auto.deltas ∙ c.loop-i.invariant.1,
  λ ds.
      left_on (held_in c.args.from.now ds) _ _ c.loop-i.words c.loop-i.deltas _ _ _ (c.loop-i.invariant.2 ds) (shaped_as c.requires.1 c.loop-i.invariant.0 c.loop-i.invariant.1) (omega arith) _ _ c.move_cell.result (c.move_cell.ensures ds) _ (search rules),
)

pub returns-in_err-live : goal.returns-in_err-live
returns-in_err-live c = λ ds.
    left_stop (held_in c.args.from.now ds) _ _ c.loop-i.words c.loop-i.deltas _ _ _ (c.loop-i.invariant.2 ds) (shaped_as c.requires.1 c.loop-i.invariant.0 c.loop-i.invariant.1) (omega arith) _ _ c.move_cell.result (c.move_cell.ensures ds) c.in_err-live.field-0.0 (search rules) _ (search rules)

pub returns : goal.returns
returns c = λ ds. left_end (held_in c.args.from.now ds) _ _ c.loop-i.words c.loop-i.deltas _ _ _ (c.loop-i.invariant.2 ds) (omega arith)
