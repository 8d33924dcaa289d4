-- `cells::walk::View::walk_to` meets its contract: at each turn the walk is what is left of it. Assumes nothing.
use Rattle.std.proofs.Common.{sym, ◌∙◌, arith}
use Rattle.steps.proofs.Sizes.{size_least, size_greatest}
use Rattle.steps.proofs.Walking.{home_met, going_start, going_tail, going_broken, going_met, going_link}
use Rattle.cells.proofs.Shapes.{in_words, in_deltas}
use Rattle.cells.proofs.walk.View.walk_to.Goals as goal

pub cell_of-home-requires : goal.cell_of-home-requires
cell_of-home-requires c = c.args.self.now.shaped.size

pub holds_at-requires : goal.holds_at-requires
holds_at-requires c = in_words c.args.self.now.shaped _ c.cell_of-home.ensures

pub returns-then-holds_at : goal.returns-then-holds_at
returns-then-holds_at c = home_met _ _ _ _ _ c.cell_of-home.ensures (sym c.holds_at.ensures ∙ c.if-holds_at.true)

pub first_delta-delta-requires : goal.first_delta-delta-requires
first_delta-delta-requires c = in_deltas c.args.self.now.shaped _ c.cell_of-home.ensures

pub loop-delta-init : goal.loop-delta-init
loop-delta-init c =
    let l = size_least _ c.args.self.now.shaped.size in
    going_start _ _ _ _ (omega arith) _ _ c.cell_of-home.ensures (sym c.holds_at.ensures ∙ c.if-holds_at.false) c.first_delta-delta.ensures

pub returns-then-looked-size : goal.returns-then-looked-size
returns-then-looked-size c = going_broken _ _ _ _ _ _ _ c.loop-delta.invariant c.loop-delta-test.true c.if-looked-size.true

pub overflow_add-looked : goal.overflow_add-looked
overflow_add-looked c = let h = size_greatest _ c.args.self.now.shaped.size in omega (arith, c.loop-delta.invariant.most)

pub cell_of-i-requires : goal.cell_of-i-requires
cell_of-i-requires c = c.args.self.now.shaped.size

pub holds_at-requires-in-loop-delta : goal.holds_at-requires-in-loop-delta
holds_at-requires-in-loop-delta c = in_words c.args.self.now.shaped _ c.cell_of-i.ensures

pub returns-then-holds_at-2 : goal.returns-then-holds_at-2
returns-then-holds_at-2 c =
    going_met _ _ _ _ _ _ _ c.loop-delta.invariant c.loop-delta-test.true c.if-looked-size.false _ _ c.wrapping_add_u64-at.ensures.value c.cell_of-i.ensures (sym c.holds_at-in-loop-delta.ensures ∙ c.if-holds_at-2.true)

pub second_delta-delta-requires : goal.second_delta-delta-requires
second_delta-delta-requires c = in_deltas c.args.self.now.shaped _ c.cell_of-i.ensures

pub loop-delta-smaller : goal.loop-delta-smaller
loop-delta-smaller c = omega (arith, c.loop-delta.invariant.most, c.if-looked-size.false)

pub loop-delta-preserved : goal.loop-delta-preserved
loop-delta-preserved c =
    going_link _ _ _ _ _ _ _ c.loop-delta.invariant c.loop-delta-test.true c.if-looked-size.false _ _ c.wrapping_add_u64-at.ensures.value c.cell_of-i.ensures _ (sym c.holds_at-in-loop-delta.ensures ∙ c.if-holds_at-2.false) c.second_delta-delta.ensures

pub returns : goal.returns
returns c = going_tail _ _ _ _ _ _ _ c.loop-delta.invariant c.loop-delta-test.false
