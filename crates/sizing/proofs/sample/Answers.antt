-- `sizing::sample` meets its contract: after i turns n counts the first i positions. Assumes nothing.
use Rattle.std.proofs.Common.{arith}
use Rattle.rules.specs.Growth.{sample}
use Rattle.sizing.proofs.Counting.{counting_start, counting_live, counting_not, counting_end, cell_in}
use Rattle.sizing.proofs.sample.Goals as goal
use Rattle.sizing.proofs.sample.Goals.{then-is_live, else-is_live}

pub loop-i-init : goal.loop-i-init
loop-i-init c = counting_start _ _ _ _ (omega arith) (omega arith) c.wrapping_sub_u64-start.ensures.value

pub is_live-requires : goal.is_live-requires
is_live-requires c = cell_in _ _ _ _ c.requires.0 c.requires.1 c.cell_of.ensures

pub overflow_add-n : goal.overflow_add-n
overflow_add-n c = omega (arith, c.loop-i.invariant.most, c.loop-i.invariant.within)

pub loop-i-preserved : goal.loop-i-preserved
loop-i-preserved c =
    elim c.if-is_live.branch [
      | then-is_live w ↦ counting_live c.loop-i.invariant c.loop-i-test.true c.wrapping_add_u64-at.ensures.value c.cell_of.ensures c.is_live.ensures w.if-is_live.true w.n-is
      | else-is_live w ↦ counting_not c.loop-i.invariant c.loop-i-test.true c.wrapping_add_u64-at.ensures.value c.cell_of.ensures c.is_live.ensures w.if-is_live.false w.n-is
    ]

pub returns : goal.returns
unfolding sample
returns c h ds = counting_end c.loop-i.invariant c.loop-i-test.false
