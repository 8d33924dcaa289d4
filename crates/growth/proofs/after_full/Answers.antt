-- `growth::after_full` meets its contract. Assumes nothing.
use mathlib.Core.Path.{refl}
use native.Mathlib.Omega.{arith}
use Rattle.growth.proofs.Fulls.{sample_fits, first_power, full_to, full_refused}
use Rattle.growth.proofs.after_full.Goals as goal

pub first_size-first-requires : goal.first_size-first-requires
first_size-first-requires c = (c.requires.size, sample_fits c.args.cells c.args.size c.args.live 0 c.args.position c.args.words.now c.args.deltas.now c.args.spare_words.now c.args.spare_deltas.now c.sample.result _ refl c.sample.ensures)

pub try_sizes-requires : goal.try_sizes-requires
try_sizes-requires c = (record { source = omega (arith, c.requires.words, c.requires.most); size = c.requires.cells_size; words = c.requires.spare_words_length; deltas = c.requires.spare_deltas_length }, first_power c.args.cells c.args.size c.args.live 0 c.args.position c.args.words.now c.args.deltas.now c.args.spare_words.now c.args.spare_deltas.now c.sample.result c.first_size-first.result c.first_size-first.ensures c.sample.ensures c.requires.size)

pub returns-in-Ok : goal.returns-in-Ok
returns-in-Ok c = full_to c.args.cells c.args.size c.args.live c.args.looked c.args.position c.args.words.now c.args.deltas.now c.args.spare_words.now c.args.spare_deltas.now c.sample.result c.first_size-first.result c.first_size-first.ensures c.sample.ensures c.try_sizes.result _ _ c.try_sizes.ensures c.in-Ok.to c.in-Ok.is _ _ c.clear_both.ensures.0 c.clear_both.ensures.1

pub returns-in-Err : goal.returns-in-Err
returns-in-Err c = full_refused c.args.cells c.args.size c.args.live c.args.looked c.args.position c.args.words.now c.args.deltas.now c.args.spare_words.now c.args.spare_deltas.now c.sample.result c.first_size-first.result c.first_size-first.ensures c.sample.ensures c.try_sizes.result _ _ c.try_sizes.ensures c.in-Err.error c.in-Err.is _ c.from.ensures
