-- `hashiter::set_value` meets its contract. Assumes nothing.
use mathlib.Core.Path.{sym, ap, ◌∙◌}
use native.Mathlib.Omega.{arith}
use Rattle.steps.proofs.Branches.{shape_fails, shape_passes}
use Rattle.cells.specs.Layout.{lent, offered_by}
use Rattle.cells.proofs.Shapes.{words_hold, sized, unsized, sized_shape}
use Rattle.cells.proofs.Doing.{left_all, as_rule}
use Rattle.hashiter.proofs.Setting.{set_shape, set_index, set_offered, set_past}
use Rattle.hashiter.proofs.set_value.Goals as goal

pub returns-in_default : goal.returns-in_default
returns-in_default c = left_all _ _ _ (set_shape _ _ _ (shape_fails (lent c.args.words.now c.args.deltas.now c.args.table) (unsized _ _ c.in_default.ensures)))

pub returns-in_default-offer : goal.returns-in_default-offer
returns-in_default-offer c =
    let s = sized _ _ c.in-Some.ensures in
    left_all _ _ _
    (set_offered _ _ _ (shape_passes (lent c.args.words.now c.args.deltas.now c.args.table) s.0) (rw (← s.1) c.if-index-size.true) (sym c.offer.ensures ∙ ap offered_by c.in_default-offer.is))

pub set_in-requires : goal.set_in-requires
set_in-requires c = words_hold _ c.args.words.now _ (sized_shape _ _ _ c.in-Some.ensures).0.words (omega arith)

pub returns-then-index-size : goal.returns-then-index-size
returns-then-index-size c =
    let s = sized _ _ c.in-Some.ensures in
    as_rule _ _ _ _
    (set_past _ _ _ (shape_passes (lent c.args.words.now c.args.deltas.now c.args.table) s.0) (rw (← s.1) c.if-index-size.true) (sym c.offer.ensures ∙ ap offered_by c.in-Ok.is))
    (c.set_in.ensures c.args.table.hasher _ _ c.args.deltas.now)

pub returns : goal.returns
returns c =
    let s = sized _ _ c.in-Some.ensures in
    left_all _ _ _ (set_index _ _ _ (shape_passes (lent c.args.words.now c.args.deltas.now c.args.table) s.0) (rw (← s.1) c.if-index-size.false))
