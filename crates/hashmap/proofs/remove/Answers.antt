-- `hashmap::remove` meets its contract. Assumes nothing.
use Rattle.steps.proofs.Branches.{shape_fails, shape_passes, remove_shape, remove_zero, remove_past}
use Rattle.cells.specs.Layout.{lent}
use Rattle.cells.proofs.Shapes.{sized, unsized, sized_shape}
use Rattle.cells.proofs.Doing.{left_all, as_rule}
use Rattle.hashmap.proofs.Leaving.{as_left}
use Rattle.hashmap.proofs.remove.Goals as goal

pub returns-in_default : goal.returns-in_default
returns-in_default c = as_left _ c.args.table _ _ (left_all _ _ _ (remove_shape _ _ (shape_fails (lent c.args.words.now c.args.deltas.now c.args.table) (unsized _ _ c.in_default.ensures))))

pub returns-then-hash-eq0 : goal.returns-then-hash-eq0
returns-then-hash-eq0 c =
    as_left _ c.args.table _ _
    (left_all _ _ _ (remove_zero _ _ _ c.hash_of-hash.ensures (shape_passes (lent c.args.words.now c.args.deltas.now c.args.table) (sized _ _ c.in-Some.ensures).0) c.if-hash-eq0.true))

pub remove_in-done-requires : goal.remove_in-done-requires
remove_in-done-requires c = (sized_shape _ _ _ c.in-Some.ensures).0

pub returns : goal.returns
returns c =
    let past = remove_past (lent c.args.words.now c.args.deltas.now c.args.table) _ _ c.hash_of-hash.ensures (shape_passes (lent c.args.words.now c.args.deltas.now c.args.table) (sized _ _ c.in-Some.ensures).0) c.if-hash-eq0.false in
    as_left _ c.args.table _ _
    (as_rule _ _ _ _ past (rw (← (sized _ _ c.in-Some.ensures).1) c.remove_in-done.ensures))
