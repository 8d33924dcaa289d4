-- `hashiter::step_in` meets its contract: from i on a step says what it says from the position given. Assumes nothing.
use native.Mathlib.Omega.{arith}
use Rattle.hashiter.proofs.Stepping.{going_start, going_live, going_past, going_end}
use Rattle.hashiter.proofs.step_in.Goals as goal

pub loop-i-init : goal.loop-i-init
loop-i-init c = (going_start _ _ _, omega arith)

pub returns-then-is_live : goal.returns-then-is_live
returns-then-is_live c = going_live c.loop-i.invariant.0 (omega arith) c.is_live.ensures c.if-is_live.true c.key_at.ensures c.value_at.ensures

pub loop-i-preserved : goal.loop-i-preserved
loop-i-preserved c = (going_past c.loop-i.invariant.0 (omega arith) c.is_live.ensures c.if-is_live.false, omega arith)

pub returns : goal.returns
returns c = going_end c.loop-i.invariant.0 (omega arith) (omega (arith, c.max.ensures, c.loop-i.invariant.1))
