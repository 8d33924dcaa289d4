-- `entryinsert::vacant::put` meets its contract. Assumes nothing.
use mathlib.Core.Path.{sym, ◌∙◌}
use Rattle.entries.proofs.Using.{passed_as}
use Rattle.entryinsert.specs.Answers.{entry_insert_said}
use Rattle.entryinsert.proofs.Placing.{put_stale, put_refused, put_inserted}
use Rattle.entryinsert.proofs.vacant.put.Goals as goal

pub returns-then-is_found : goal.returns-then-is_found
returns-then-is_found c = put_stale _ _ _ _ _ _ _ _ _ _ _ _ c.walk_to-walked.ensures (sym c.if-is_found.true ∙ c.is_found.ensures)

pub returns-in_err-said : goal.returns-in_err-said
returns-in_err-said c =
    put_refused _ _ _ _ c.args.table.now _ _ _ _ _ _ _ c.walk_to-walked.ensures (sym c.if-is_found.false ∙ c.is_found.ensures) c.insert_after-done.ensures _ (sym c.answer.ensures ∙ c.in_err-said.was) _ (passed_as entry_insert_said c.from_residual.result _ c.from_residual.ensures.1)

pub returns : goal.returns
returns c =
    put_inserted _ _ _ _ c.args.table.now _ _ _ _ _ _ _ c.walk_to-walked.ensures (sym c.if-is_found.false ∙ c.is_found.ensures) c.insert_after-done.ensures _ (sym c.answer.ensures ∙ c.in_ok-said.was) _ c.into.ensures
