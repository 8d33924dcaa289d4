-- `checker::Cells::chain_ok` meets its contract: what is left of the chain is tested like the whole. Assumes nothing.
use Rattle.std.proofs.Common.{◌≡◌, suc, ◌+◌, ◌-◌, sym, refl, ◌∙◌, arith}
use Rattle.steps.proofs.Sizes.{size_least}
use Rattle.cells.specs.Layout.{view}
use Rattle.checker.proofs.Chains.{chain_ends, chain_last, chain_stranger, chain_on, home_position}
use Rattle.checker.proofs.Cells.chain_ok.Goals as goal

pub loop-link-init : goal.loop-link-init
loop-link-init c = rw (home_position _ _ c.requires, c.first_delta-delta.ensures)

pub returns-then-delta-eq0 : goal.returns-then-delta-eq0
returns-then-delta-eq0 c = chain_ends _ _ _ _ _ _ c.if-delta-eq0.true ∙ sym c.loop-link.invariant

pub returns-then-not-of_home : goal.returns-then-not-of_home
returns-then-not-of_home c =
    let s = c.args.self.now in
    let less : s.lent.size - c.loop-link._link ≡ suc (s.lent.size - (c.loop-link._link + 1)) = omega arith in
    chain_stranger _ (view s.lent.words.now s.lent.deltas.now) _ s.lent.shaped.size _ _ _ _ _ _ _ less c.if-delta-eq0.false c.wrapping_add_u64-at.ensures.value c.cell_of-j.ensures refl (sym c.of_home.ensures ∙ c.if-not-of_home.true) ∙ sym c.loop-link.invariant

pub loop-link-preserved : goal.loop-link-preserved
loop-link-preserved c =
    let s = c.args.self.now in
    let less : s.lent.size - c.loop-link._link ≡ suc (s.lent.size - (c.loop-link._link + 1)) = omega arith in
    c.loop-link.invariant
    ∙ chain_on _ (view s.lent.words.now s.lent.deltas.now) _ s.lent.shaped.size _ _ _ _ _ _ _ less c.if-delta-eq0.false c.wrapping_add_u64-at.ensures.value c.cell_of-j.ensures refl (sym c.of_home.ensures ∙ c.if-not-of_home.false)
    ∙ rw (← c.cell_of-j.ensures, c.second_delta-delta.ensures)

pub returns : goal.returns
returns c =
    let s = c.args.self.now in
    chain_last _ (view s.lent.words.now s.lent.deltas.now) _ _ _ _ (omega (arith, size_least _ s.lent.shaped.size)) ∙ sym c.loop-link.invariant
