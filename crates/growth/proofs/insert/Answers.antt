-- `growth::insert` meets its contract. Assumes nothing.
use mathlib.Core.Path.{sym, ap, ◌∙◌}
use Rattle.cells.specs.Layout.{offered_by}
use Rattle.growth.specs.Growth.{grown_by}
use Rattle.growth.proofs.Checked.{sided, refused_1, refused_2, refused_3, grows}
use Rattle.growth.proofs.insert.Goals as goal

pub returns-then-not-passes : goal.returns-then-not-passes
returns-then-not-passes c =
    ap (λ r. grown_by r c.args.lower_words.now c.args.lower_deltas.now c.args.upper_words.now c.args.upper_deltas.now) c.refused.ensures
    ∙ refused_1 c.args.lower_words.now c.args.lower_deltas.now c.args.upper_words.now c.args.upper_deltas.now c.args.growing c.args.key c.args.value (sym c.if-not-passes.ensures)

pub returns-in_default : goal.returns-in_default
returns-in_default c =
    ap (λ r. grown_by r c.args.lower_words.now c.args.lower_deltas.now c.args.upper_words.now c.args.upper_deltas.now) c.refused-in_default.ensures
    ∙ refused_3 c.args.lower_words.now c.args.lower_deltas.now c.args.upper_words.now c.args.upper_deltas.now c.args.growing c.args.key c.args.value (sym c.if-not-passes.ensures) (sym c.offer.ensures ∙ ap offered_by c.in_default.is)

pub returns-then-hash-eq0 : goal.returns-then-hash-eq0
returns-then-hash-eq0 c =
    ap (λ r. grown_by r c.args.lower_words.now c.args.lower_deltas.now c.args.upper_words.now c.args.upper_deltas.now) c.refused-then-hash-eq0.ensures
    ∙ refused_2 c.args.lower_words.now c.args.lower_deltas.now c.args.upper_words.now c.args.upper_deltas.now c.args.growing c.args.key c.args.value (sym c.if-not-passes.ensures) (sym c.offer.ensures ∙ ap offered_by c.in-Ok.is) c.hash_of-hash.result c.hash_of-hash.ensures c.if-hash-eq0.true

pub grow_in-requires : goal.grow_in-requires
grow_in-requires c = sided c.args.lower_words.now c.args.lower_deltas.now c.args.upper_words.now c.args.upper_deltas.now c.args.growing c.args.key c.args.value (sym c.if-not-passes.ensures)

pub returns : goal.returns
returns c =
    grows c.args.lower_words.now c.args.lower_deltas.now c.args.upper_words.now c.args.upper_deltas.now c.args.growing c.args.key c.args.value (sym c.if-not-passes.ensures) (sym c.offer.ensures ∙ ap offered_by c.in-Ok.is) c.hash_of-hash.result c.hash_of-hash.ensures c.if-hash-eq0.false _ c.grow_in.ensures
