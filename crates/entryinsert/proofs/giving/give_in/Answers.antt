-- `entryinsert::giving::give_in` meets its contract. Assumes nothing.
use mathlib.Core.Path.{refl, sym, ap, ◌∙◌}
use Prim.Native.Nat.{ℕ}
use Rattle.rules.specs.Answers.{Outcome}
use Rattle.rules.specs.Entries.{inserting, used_at, use_entry}
use Rattle.steps.proofs.Branches.{settle_replaced}
use Rattle.cells.specs.Layout.{null, view, value_in, counts_of, lent}
use Rattle.entries.specs.Answers.{place_of, entry_in}
use Rattle.entries.proofs.Using.{use_shape_lem, use_offered, use_zero, use_stale, stale_other, held_in, looked_at, use_sized, use_unsized, use_ready, passed_as, passed_none}
use Rattle.entryinsert.specs.declared.giving.Doing.{Doing}
use Rattle.entryinsert.specs.Workers.{doing, put_in}
use Rattle.entryinsert.specs.Answers.{entry_insert_said, handed_by}
use Rattle.entryinsert.proofs.Handing.{handed_left, handed_stored, case_offers, case_vacant, case_held, case_error}
use Rattle.entryinsert.proofs.Putting.{use_put}
use Rattle.entryinsert.proofs.giving.give_in.Goals as goal

pub returns-in_err-size : goal.returns-in_err-size
returns-in_err-size c =
    handed_left _ c.args.entry.now c.args.table.now _ _ _ (passed_none entry_insert_said c.from_residual.result _ _ c.from_residual.ensures.1 (rw c.in_err-size.ensures.ok_part at c.in_err-size.ensures.value))
    (use_shape_lem (lent c.args.words.now c.args.deltas.now c.args.table.now) (entry_in c.args.entry.now) _ (use_unsized c.args.words.now c.args.deltas.now c.args.table.now (place_of c.args.entry.now.place) c.size_at.ensures c.in_err-size.ensures.ok_part))

pub returns-in_err-offer : goal.returns-in_err-offer
returns-in_err-offer c =
    let s = use_sized c.args.words.now c.args.deltas.now c.args.table.now (place_of c.args.entry.now.place) c.size_at.ensures c.in_ok-size.ensures.ok_part in
    handed_left _ c.args.entry.now c.args.table.now _ _ _ (passed_as entry_insert_said c.from_residual-in_err-offer.result _ c.from_residual-in_err-offer.ensures.1)
    (use_offered (lent c.args.words.now c.args.deltas.now c.args.table.now) (entry_in c.args.entry.now) _ s.1 (case_offers (place_of c.args.entry.now.place) c.args.held c.args.value _ (sym c.in_err-offer.ensures)))

pub look-requires : goal.look-requires
look-requires c =
    let r = use_ready c.args.words.now c.args.deltas.now c.args.table.now (place_of c.args.entry.now.place) c.size_at.ensures c.in_ok-size.ensures.ok_part in
    (r.0.words, r.1)

pub returns-in_err-cell-in-Occupied : goal.returns-in_err-cell-in-Occupied
returns-in_err-cell-in-Occupied c =
    handed_left _ c.args.entry.now c.args.table.now _ _ _ (passed_as entry_insert_said c.from_residual-in_err-cell-in-Occupied.result _ c.from_residual-in_err-cell-in-Occupied.ensures.1)
    (case_error c.args.words.now c.args.deltas.now c.args.table.now c.args.entry.now c.args.held c.args.value c.size_at.ensures c.in_ok-size.ensures.ok_part (sym c.in_ok-offer.ensures) _ c.look.ensures _ (ap place_of c.in-Occupied.is) _ c.in_err-cell-in-Occupied.was)

pub store_value-requires : goal.store_value-requires
store_value-requires c =
    let r = use_ready c.args.words.now c.args.deltas.now c.args.table.now (place_of c.args.entry.now.place) c.size_at.ensures c.in_ok-size.ensures.ok_part in
    held_in _ c.args.words.now _ _ r.0.words r.1 (looked_at _ _ (entry_in c.args.entry.now) _ c.look.ensures _ c.in_ok-cell-in-Occupied.was)

pub returns-in-Refuse : goal.returns-in-Refuse
returns-in-Refuse c =
    handed_left _ c.args.entry.now c.args.table.now _ _ _ refl
    (case_held c.args.words.now c.args.deltas.now c.args.table.now c.args.entry.now c.args.held c.args.value c.size_at.ensures c.in_ok-size.ensures.ok_part (sym c.in_ok-offer.ensures) _ c.look.ensures _ c.in_ok-cell-in-Occupied.was ∙ ap (λ (d : Doing). used_at (lent c.args.words.now c.args.deltas.now c.args.table.now) c.in_ok-cell-in-Occupied.cell.index c.in_ok-cell-in-Occupied.cell.value (doing d c.args.value)) c.in-Refuse.is)

pub returns-in-Keep : goal.returns-in-Keep
returns-in-Keep c =
    handed_left _ c.args.entry.now c.args.table.now _ _ _ refl
    (case_held c.args.words.now c.args.deltas.now c.args.table.now c.args.entry.now c.args.held c.args.value c.size_at.ensures c.in_ok-size.ensures.ok_part (sym c.in_ok-offer.ensures) _ c.look.ensures _ c.in_ok-cell-in-Occupied.was ∙ ap (λ (d : Doing). used_at (lent c.args.words.now c.args.deltas.now c.args.table.now) c.in_ok-cell-in-Occupied.cell.index c.in_ok-cell-in-Occupied.cell.value (doing d c.args.value)) c.in-Keep.is)

pub returns-in-Replace : goal.returns-in-Replace
returns-in-Replace c =
    handed_stored _ c.args.entry.now c.args.table.now _ _ _ _ _
    (case_held c.args.words.now c.args.deltas.now c.args.table.now c.args.entry.now c.args.held c.args.value c.size_at.ensures c.in_ok-size.ensures.ok_part (sym c.in_ok-offer.ensures) _ c.look.ensures _ c.in_ok-cell-in-Occupied.was ∙ ap (λ (d : Doing). used_at (lent c.args.words.now c.args.deltas.now c.args.table.now) c.in_ok-cell-in-Occupied.cell.index c.in_ok-cell-in-Occupied.cell.value (doing d c.args.value)) c.in-Replace.is ∙ settle_replaced _ _ _ _ _)
    (looked_at _ _ (entry_in c.args.entry.now) _ c.look.ensures _ c.in_ok-cell-in-Occupied.was) c.store_value.ensures

pub returns-then-hash-eq0 : goal.returns-then-hash-eq0
returns-then-hash-eq0 c =
    let s = use_sized c.args.words.now c.args.deltas.now c.args.table.now (place_of c.args.entry.now.place) c.size_at.ensures c.in_ok-size.ensures.ok_part in
    handed_left _ c.args.entry.now c.args.table.now _ _ _ refl
    (use_zero (lent c.args.words.now c.args.deltas.now c.args.table.now) (entry_in c.args.entry.now) _ s.1 (case_offers (place_of c.args.entry.now.place) c.args.held c.args.value _ (sym c.in_ok-offer.ensures)) (sym c.hash_of-hash.ensures ∙ c.if-hash-eq0.true))

pub returns-then-entry-hash : goal.returns-then-entry-hash
returns-then-entry-hash c =
    let s = use_sized c.args.words.now c.args.deltas.now c.args.table.now (place_of c.args.entry.now.place) c.size_at.ensures c.in_ok-size.ensures.ok_part in
    handed_left _ c.args.entry.now c.args.table.now _ _ _ refl
    (use_stale (lent c.args.words.now c.args.deltas.now c.args.table.now) (entry_in c.args.entry.now) _ s.1 (case_offers (place_of c.args.entry.now.place) c.args.held c.args.value _ (sym c.in_ok-offer.ensures)) (λ z. c.if-hash-eq0.false (c.hash_of-hash.ensures ∙ z)) (stale_other (lent c.args.words.now c.args.deltas.now c.args.table.now) (entry_in c.args.entry.now) (λ q. c.if-entry-hash.true (q ∙ sym c.hash_of-hash.ensures))))

pub put-requires : goal.put-requires
put-requires c = (use_ready c.args.words.now c.args.deltas.now c.args.table.now (place_of c.args.entry.now.place) c.size_at.ensures c.in_ok-size.ensures.ok_part).0

pub returns-else-entry-hash : goal.returns-else-entry-hash
returns-else-entry-hash c =
    let s = use_sized c.args.words.now c.args.deltas.now c.args.table.now (place_of c.args.entry.now.place) c.size_at.ensures c.in_ok-size.ensures.ok_part in
    let own = c.if-entry-hash.false ∙ c.hash_of-hash.ensures in
    let at = ap place_of c.in-Vacant.is in
    c.put.ensures ∙ ap (λ (o : Outcome). handed_by o (entry_in c.args.entry.now) c.args.table.now c.args.words.now c.args.deltas.now)
    (sym
    (ap (use_entry (lent c.args.words.now c.args.deltas.now c.args.table.now) (entry_in c.args.entry.now)) (case_vacant (place_of c.args.entry.now.place) (doing c.args.held c.args.value) (inserting c.args.value) at) ∙ use_put (lent c.args.words.now c.args.deltas.now c.args.table.now) (entry_in c.args.entry.now) c.args.value s.1 (sym c.in_ok-offer.ensures) (λ z. c.if-hash-eq0.false (c.hash_of-hash.ensures ∙ z)) at own ∙ ap (λ (n : ℕ). put_in n null (view c.args.words.now c.args.deltas.now) (value_in c.args.words.now) (counts_of c.args.table.now.live) c.args.entry.now.hash c.args.entry.now.key c.args.value) (sym s.0)))
