-- `checker::check` meets its contract. Assumes nothing.
use Rattle.std.proofs.Common.{sym, ◌∙◌}
use Rattle.steps.proofs.Branches.{shape_fails, shape_passes}
use Rattle.cells.specs.Layout.{lent}
use Rattle.cells.proofs.Shapes.{sized, unsized, sized_shape}
use Rattle.checker.proofs.Counting.{check_shape, check_yes, check_no}
use Rattle.checker.proofs.check.Goals as goal

pub returns-in_default : goal.returns-in_default
returns-in_default c =
    let l = lent c.args.words.now c.args.deltas.now c.args.table in
    check_shape l (shape_fails l (unsized _ _ c.in_default.ensures))

pub invariant_of-lent : goal.invariant_of-lent
invariant_of-lent c = record { shaped = (sized_shape _ _ _ c.in-Some.ensures).0 }

pub returns-then-is_sound : goal.returns-then-is_sound
returns-then-is_sound c =
    let l = lent c.args.words.now c.args.deltas.now c.args.table in
    let e = sized _ _ c.in-Some.ensures in
    check_yes l (shape_passes l e.0) (rw e.1 at (sym c.is_sound.ensures ∙ c.if-is_sound.true))

pub returns-else-is_sound : goal.returns-else-is_sound
returns-else-is_sound c =
    let l = lent c.args.words.now c.args.deltas.now c.args.table in
    let e = sized _ _ c.in-Some.ensures in
    check_no l (shape_passes l e.0) (rw e.1 at (sym c.is_sound.ensures ∙ c.if-is_sound.false))
