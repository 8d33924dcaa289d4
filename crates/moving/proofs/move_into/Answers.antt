-- `moving::move_into` meets its contract. Assumes nothing.
use mathlib.Core.Path.{sym, ap, ◌∙◌}
use lib.ListN.{length}
use Rattle.moving.specs.Slices.{held_in}
use Rattle.moving.proofs.Held.{fresh_shaped, shaped_as, clear_lengths}
use Rattle.moving.proofs.Into.{into_moved, into_stopped}
use Rattle.moving.proofs.move_into.Goals as goal

pub move_cells-moved-requires : goal.move_cells-moved-requires
move_cells-moved-requires c = (c.requires.0, shaped_as (fresh_shaped _ _ c.requires.3 c.requires.4) (ap length c.requires.1) (ap length c.requires.2))

pub returns-else-is_err : goal.returns-else-is_err
returns-else-is_err c = λ ds. into_moved _ _ (held_in c.args.from.now ds) _ _ c.args.words.now c.args.deltas.now c.requires.1 c.requires.2 c.move_cells-moved.result _ _ (c.move_cells-moved.ensures ds) _ c.totalled-end.ensures (sym c.is_err.ensures.value ∙ c.if-is_err.false)

pub clear_both-requires : goal.clear_both-requires
clear_both-requires c = clear_lengths _ c.requires.1 c.requires.2 c.move_cells-moved.auto.words c.move_cells-moved.auto.deltas

pub returns-then-is_err : goal.returns-then-is_err
returns-then-is_err c = λ ds. into_stopped _ _ (held_in c.args.from.now ds) _ _ c.args.words.now c.args.deltas.now c.requires.1 c.requires.2 c.move_cells-moved.result _ _ (c.move_cells-moved.ensures ds) _ c.totalled-end.ensures (sym c.is_err.ensures.value ∙ c.if-is_err.true) c.clear_both.ensures
