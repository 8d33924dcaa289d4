-- `moves::move_table` meets its contract. Assumes nothing.
use borrow.Author.Rules.{rules}
use mathlib.Core.Path.{◌≡◌, sym, ap, ◌∙◌}
use Rattle.std.specs.Prelude.{Err}
use Rattle.steps.proofs.Branches.{shape_fails}
use Rattle.cells.specs.Layout.{lent}
use Rattle.cells.proofs.Shapes.{exact_lengths, shaped, sized_shape, unsized}
use Rattle.moving.specs.Ends.{end_of}
use Rattle.moves.specs.Answers.{move_said, end_said, move_left}
use Rattle.moves.specs.declared.MoveError.TheVariants.{Shape}
use Rattle.moves.proofs.Moved.{refused_source, refused_destination, past_checks, said_moved, said_stopped}
use Rattle.moves.proofs.move_table.Goals as goal

pub returns-in_err-size : goal.returns-in_err-size
returns-in_err-size c =
    let r : c.from_residual.result ≡ Err Shape = search rules in
    ap (λ x. move_left x c.args.words.now c.args.deltas.now) r
    ∙ refused_source c.args.from_words.now c.args.from_deltas.now c.args.table c.args.words.now c.args.deltas.now
    (shape_fails (lent c.args.from_words.now c.args.from_deltas.now c.args.table) (unsized _ _ (sym c.in_err-size.ensures.ok_part ∙ c.size_of.ensures)))

pub returns-then-not-is_shaped : goal.returns-then-not-is_shaped
returns-then-not-is_shaped c = refused_destination c.args.from_words.now c.args.from_deltas.now c.args.table c.args.words.now c.args.deltas.now (sym c.if-not-is_shaped.ensures)

pub move_past-requires : goal.move_past-requires
move_past-requires c =
    let e = sym c.if-not-is_shaped.ensures in
    ((sized_shape _ _ _ (sym c.in_ok-size.ensures.ok_part ∙ c.size_of.ensures)).0.words, (shaped _ _ e).size, (exact_lengths _ _ e).0, (exact_lengths _ _ e).1)

pub returns-in_err-live : goal.returns-in_err-live
returns-in_err-live c =
    let r : move_said c.from_residual-in_err-live.result ≡ end_said c.args.table.hasher (end_of (Err c.in_err-live.field-0.0)) = search rules in
    past_checks c.args.from_words.now c.args.from_deltas.now c.args.table c.args.words.now c.args.deltas.now
    _ (sym c.in_ok-size.ensures.ok_part ∙ c.size_of.ensures) (sym c.if-not-is_shaped.ensures)
    _ _ _ _ (c.move_past.ensures c.args.from_deltas.now) (said_stopped c.args.table.hasher _ c.move_past.result c.in_err-live.was _ r)

pub returns : goal.returns
returns c =
    past_checks c.args.from_words.now c.args.from_deltas.now c.args.table c.args.words.now c.args.deltas.now
    _ (sym c.in_ok-size.ensures.ok_part ∙ c.size_of.ensures) (sym c.if-not-is_shaped.ensures)
    _ _ _ _ (c.move_past.ensures c.args.from_deltas.now) (said_moved _ _ c.move_past.result c.in_ok-live.was)
