-- `cells::walk::probe_from` meets its contract: at each turn the probe is what is left of it. Assumes nothing.
use Rattle.std.proofs.Common.{arith}
use Rattle.steps.proofs.Probing.{probing_start, probing_end, probing_free, probing_on}
use Rattle.cells.proofs.Shapes.{words_hold, cell_lt}
use Rattle.cells.proofs.walk.probe_from.Goals as goal

pub loop-d-init : goal.loop-d-init
loop-d-init c = probing_start _ _ _ _ 1

pub hash_at-requires : goal.hash_at-requires
hash_at-requires c = words_hold _ c.args.words.now _ c.requires.1 (cell_lt _ _ _ c.requires.0 c.cell_of.ensures)

pub returns-then-hash_at-eq0 : goal.returns-then-hash_at-eq0
returns-then-hash_at-eq0 c = probing_free _ _ _ _ _ c.loop-d.invariant (omega (arith, c.loop-d-test.true)) _ _ _ c.wrapping_add_u64-at.ensures.value c.cell_of.ensures c.hash_at.ensures c.if-hash_at-eq0.true

pub loop-d-preserved : goal.loop-d-preserved
loop-d-preserved c = probing_on _ _ _ _ _ c.loop-d.invariant (omega (arith, c.loop-d-test.true)) _ _ _ c.wrapping_add_u64-at.ensures.value c.cell_of.ensures c.hash_at.ensures c.if-hash_at-eq0.false

pub returns : goal.returns
returns c = probing_end _ _ _ _ _ c.loop-d.invariant (omega (arith, c.loop-d-test.false))
