-- `checker::Cells::is_sound` meets its contract: the cells passed so far pass the test, and their live ones are counted. Assumes nothing.
use Rattle.std.proofs.Common.{◌≡◌, sym, ap, ◌∙◌, arith}
use Rattle.rules.specs.Cells.{is_live}
use Rattle.rules.specs.Sound.{one}
use Rattle.cells.specs.Layout.{view, value_in, live_in, params_of, counts_of}
use Rattle.checker.proofs.Counting.{bit_counts, all_none, all_more, count_none, count_more, one_most, sound_fails, sound_counts}
use Rattle.checker.proofs.Cells.is_sound.Goals as goal

pub loop-i-init : goal.loop-i-init
loop-i-init c = (omega arith, all_none _, sym (count_none _))

pub returns-then-not-cell_ok : goal.returns-then-not-cell_ok
returns-then-not-cell_ok c = sound_fails _ _ _ (counts_of c.args.live) _ c.loop-i-test.true (sym c.cell_ok.ensures ∙ c.if-not-cell_ok.true)

pub loop-i-preserved : goal.loop-i-preserved
loop-i-preserved c =
    let s = c.args.self.now in
    let x : c.from-seen.result ≡ one (live_in s.lent.words.now c.loop-i.i) = c.from-seen.ensures ∙ bit_counts _ ∙ ap one c.is_live.ensures in (
      omega (arith, x, one_most (is_live (params_of s.lent.size s.hasher) (view s.lent.words.now s.lent.deltas.now) (value_in s.lent.words.now)) (live_in s.lent.words.now c.loop-i.i)),
      all_more _ _ c.loop-i.invariant.1 (sym c.cell_ok.ensures ∙ c.if-not-cell_ok.false),
      count_more _ _ _ _ c.loop-i.invariant.2 x,
    )

pub returns : goal.returns
returns c =
    let s = c.args.self.now in
    let end : c.loop-i.i ≡ s.lent.size = omega arith in
    sound_counts (params_of s.lent.size s.hasher) (view s.lent.words.now s.lent.deltas.now) (value_in s.lent.words.now) (counts_of c.args.live) _ _ end c.loop-i.invariant.1 c.loop-i.invariant.2
