-- `hashmap::insert` meets its contract. Assumes nothing.
use mathlib.Core.Path.{sym, ap, ◌∙◌}
use Rattle.steps.proofs.Branches.{shape_fails, shape_passes, insert_shape, insert_offered, insert_zero, insert_past}
use Rattle.cells.specs.Layout.{lent, offered_by}
use Rattle.cells.proofs.Shapes.{sized, unsized, sized_shape}
use Rattle.cells.proofs.Doing.{left_all, as_rule}
use Rattle.hashmap.proofs.Leaving.{as_left, resaid}
use Rattle.hashmap.proofs.insert.Goals as goal

pub returns-in_default : goal.returns-in_default
returns-in_default c = as_left _ c.args.table _ _ (left_all _ _ _ (insert_shape _ _ _ (shape_fails (lent c.args.words.now c.args.deltas.now c.args.table) (unsized _ _ c.in_default.ensures))))

pub returns-in_default-offer : goal.returns-in_default-offer
returns-in_default-offer c =
    as_left _ c.args.table _ _
    (left_all _ _ _ (insert_offered _ _ _ (shape_passes (lent c.args.words.now c.args.deltas.now c.args.table) (sized _ _ c.in-Some.ensures).0) (sym c.offer.ensures ∙ ap offered_by c.in_default-offer.is)))

pub returns-then-hash-eq0 : goal.returns-then-hash-eq0
returns-then-hash-eq0 c =
    as_left _ c.args.table _ _
    (left_all _ _ _
    (insert_zero _ _ _ (shape_passes (lent c.args.words.now c.args.deltas.now c.args.table) (sized _ _ c.in-Some.ensures).0) _ c.hash_of-hash.ensures (sym c.offer.ensures ∙ ap offered_by c.in-Ok.is) c.if-hash-eq0.true))

pub insert_stored-done-requires : goal.insert_stored-done-requires
insert_stored-done-requires c = (sized_shape _ _ _ c.in-Some.ensures).0

pub returns : goal.returns
returns c =
    let past = insert_past (lent c.args.words.now c.args.deltas.now c.args.table) _ _ (shape_passes (lent c.args.words.now c.args.deltas.now c.args.table) (sized _ _ c.in-Some.ensures).0) _ c.hash_of-hash.ensures (sym c.offer.ensures ∙ ap offered_by c.in-Ok.is) c.if-hash-eq0.false in
    as_left _ c.args.table _ _
    (as_rule _ _ _ _ past (rw (← (sized _ _ c.in-Some.ensures).1) (resaid c.as_said.ensures c.insert_stored-done.ensures.done)))
