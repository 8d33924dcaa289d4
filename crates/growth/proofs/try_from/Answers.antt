-- `growth::try_from` meets its contract. Assumes nothing.
use mathlib.Core.Path.{refl, ap, ◌∙◌}
use Rattle.std.specs.Prelude.{Err}
use Rattle.growth.proofs.Tries.{trying, fits, all_over, broke, again, over}
use Rattle.growth.proofs.try_from.Goals as goal

pub loop-to-init : goal.loop-to-init
loop-to-init c = trying _ _ _ _ _ _ _ c.requires.0.size c.requires.1 c.requires.0.words c.requires.0.deltas

pub move_into-requires : goal.move_into-requires
move_into-requires c = (c.requires.0.source, c.loop-to.invariant.words, c.loop-to.invariant.deltas, fits _ c.loop-to.to c.requires.0.size c.loop-to.invariant.power c.loop-to-test.true, c.loop-to-test.true)

pub returns-in-Ok : goal.returns-in-Ok
returns-in-Ok c = all_over _ _ _ _ _ _ _ c.loop-to.to _ _ c.loop-to.invariant c.loop-to-test.true _ _ c.move_into.result c.in-Ok.field-0 c.in-Ok.is c.move_into.ensures

pub returns-in-Err-Broken : goal.returns-in-Err-Broken
returns-in-Err-Broken c = broke _ _ _ _ _ _ _ c.loop-to.to _ _ c.loop-to.invariant c.loop-to-test.true _ _ c.move_into.result (c.in-Err-Broken.is ∙ ap Err c.in-Err-Broken.field-0-is) c.move_into.ensures

pub loop-to-preserved : goal.loop-to-preserved
loop-to-preserved c = again _ _ _ _ _ _ _ c.loop-to.to _ _ c.loop-to.invariant c.loop-to-test.true _ _ c.move_into.result c.in-Err-Full.field-0-0 (c.in-Err-Full.is ∙ ap Err c.in-Err-Full.field-0-is) c.move_into.ensures c.move_into.auto.words c.move_into.auto.deltas _ refl

pub returns : goal.returns
returns c = over _ _ _ _ _ _ _ c.loop-to.to _ _ c.loop-to.invariant c.loop-to-test.false
