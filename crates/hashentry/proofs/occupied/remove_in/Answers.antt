-- `hashentry::occupied::remove_in` meets its contract. Assumes nothing.
use mathlib.Core.Path.{refl, ◌∙◌}
use Rattle.rules.specs.Entries.{removing}
use Rattle.steps.proofs.Branches.{settle_removed, settle_removed_out}
use Rattle.cells.specs.Layout.{lent}
use Rattle.cells.proofs.Doing.{did, left_all}
use Rattle.hashmap.proofs.Leaving.{as_left, resaid}
use Rattle.entries.specs.Answers.{place_of, entry_in}
use Rattle.entries.proofs.Using.{use_shape_lem, held_in, use_unsized, use_ready, on_held, on_error, looked_at, passed_as, passed_none}
use Rattle.hashentry.specs.Answers.{entry_remove_said}
use Rattle.hashentry.proofs.occupied.remove_in.Goals as goal

pub returns-in_err-size : goal.returns-in_err-size
returns-in_err-size c =
    as_left _ c.args.table.now _ _
    (resaid (passed_none entry_remove_said c.from_residual.result _ _ c.from_residual.ensures.1 (rw c.in_err-size.ensures.ok_part at c.in_err-size.ensures.value))
    (left_all _ _ _ (use_shape_lem (lent c.args.words.now c.args.deltas.now c.args.table.now) (entry_in c.args.entry) removing (use_unsized c.args.words.now c.args.deltas.now c.args.table.now (place_of c.args.entry.place) c.size_at.ensures c.in_err-size.ensures.ok_part))))

pub look-requires : goal.look-requires
look-requires c =
    let r = use_ready c.args.words.now c.args.deltas.now c.args.table.now (place_of c.args.entry.place) c.size_at.ensures c.in_ok-size.ensures.ok_part in
    (r.0.words, r.1)

pub returns-in_err-cell : goal.returns-in_err-cell
returns-in_err-cell c =
    as_left _ c.args.table.now _ _
    (resaid (passed_as entry_remove_said c.from_residual-in_err-cell.result _ c.from_residual-in_err-cell.ensures.1)
    (left_all _ _ _ (on_error c.args.words.now c.args.deltas.now c.args.table.now (entry_in c.args.entry) removing c.size_at.ensures c.in_ok-size.ensures.ok_part refl _ c.look.ensures _ c.in_err-cell.was (λ q. refl))))

pub returns-then-table-eq0 : goal.returns-then-table-eq0
returns-then-table-eq0 c =
    as_left _ c.args.table.now _ _
    (left_all _ _ _ (on_held c.args.words.now c.args.deltas.now c.args.table.now (entry_in c.args.entry) removing c.size_at.ensures c.in_ok-size.ensures.ok_part refl _ c.look.ensures _ c.in_ok-cell.was ∙ settle_removed_out _ _ _ _ _ c.if-table-eq0.true))

pub store_value-requires : goal.store_value-requires
store_value-requires c =
    let r = use_ready c.args.words.now c.args.deltas.now c.args.table.now (place_of c.args.entry.place) c.size_at.ensures c.in_ok-size.ensures.ok_part in
    held_in _ c.args.words.now _ _ r.0.words r.1 (looked_at _ _ (entry_in c.args.entry) _ c.look.ensures _ c.in_ok-cell.was)

pub returns : goal.returns
returns c =
    as_left _ c.args.table.now _ _
    (did _ _ _ _ (on_held c.args.words.now c.args.deltas.now c.args.table.now (entry_in c.args.entry) removing c.size_at.ensures c.in_ok-size.ensures.ok_part refl _ c.look.ensures _ c.in_ok-cell.was ∙ settle_removed _ _ _ _ _ c.if-table-eq0.false) c.store_value.ensures refl)
