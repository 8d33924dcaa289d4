-- `hashmap::find` meets its contract. Assumes nothing.
use Rattle.steps.proofs.Branches.{shape_fails, shape_passes, find_shape, find_zero, find_past}
use Rattle.cells.specs.Layout.{lent}
use Rattle.cells.proofs.Shapes.{sized, unsized, sized_shape}
use Rattle.hashmap.proofs.find.Goals as goal

pub returns-in_default : goal.returns-in_default
returns-in_default c = find_shape _ _ (shape_fails (lent c.args.words.now c.args.deltas.now c.args.table) (unsized _ _ c.in_default.ensures))

pub returns-then-hash-eq0 : goal.returns-then-hash-eq0
returns-then-hash-eq0 c = find_zero _ _ _ c.hash_of-hash.ensures (shape_passes (lent c.args.words.now c.args.deltas.now c.args.table) (sized _ _ c.in-Some.ensures).0) c.if-hash-eq0.true

pub invariant_of-view : goal.invariant_of-view
invariant_of-view c = record { shaped = (sized_shape _ _ _ c.in-Some.ensures).0 }

pub returns : goal.returns
returns c =
    let past = find_past (lent c.args.words.now c.args.deltas.now c.args.table) _ _ c.hash_of-hash.ensures (shape_passes (lent c.args.words.now c.args.deltas.now c.args.table) (sized _ _ c.in-Some.ensures).0) c.if-hash-eq0.false in
    rw (← past, ← (sized _ _ c.in-Some.ensures).1) c.find_in.ensures
