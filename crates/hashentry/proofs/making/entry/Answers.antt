-- `hashentry::making::entry` meets its contract. Assumes nothing.
use mathlib.Core.Path.{sym, ◌∙◌}
use Rattle.steps.proofs.Branches.{shape_fails, shape_passes}
use Rattle.cells.specs.Layout.{lent}
use Rattle.cells.proofs.Shapes.{sized, unsized, sized_shape}
use Rattle.entries.proofs.Using.{passed_none}
use Rattle.hashentry.specs.Answers.{making}
use Rattle.hashentry.proofs.Made.{make_shape, make_zero, make_past}
use Rattle.hashentry.proofs.making.entry.Goals as goal

pub returns-in_err-size : goal.returns-in_err-size
returns-in_err-size c =
    passed_none making c.from_residual.result _ _ c.from_residual.ensures.1 (rw c.in_err-size.ensures.ok_part at c.in_err-size.ensures.value)
    ∙ make_shape _ _ (shape_fails (lent c.args.words.now c.args.deltas.now c.args.table) (unsized _ _ (sym c.in_err-size.ensures.ok_part ∙ c.size_of.ensures)))

pub returns-then-hash-eq0 : goal.returns-then-hash-eq0
returns-then-hash-eq0 c = make_zero _ _ _ c.hash_of-hash.ensures (shape_passes (lent c.args.words.now c.args.deltas.now c.args.table) (sized _ _ (sym c.in_ok-size.ensures.ok_part ∙ c.size_of.ensures)).0) c.if-hash-eq0.true

pub invariant_of-view : goal.invariant_of-view
invariant_of-view c = record { shaped = (sized_shape _ _ _ (sym c.in_ok-size.ensures.ok_part ∙ c.size_of.ensures)).0 }

pub returns : goal.returns
returns c =
    let s = sized _ _ (sym c.in_ok-size.ensures.ok_part ∙ c.size_of.ensures) in
    let past = make_past (lent c.args.words.now c.args.deltas.now c.args.table) _ _ c.hash_of-hash.ensures (shape_passes (lent c.args.words.now c.args.deltas.now c.args.table) s.0) c.if-hash-eq0.false in
    rw (← past, ← s.1) c.entry_in.ensures
