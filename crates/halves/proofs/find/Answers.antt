-- `halves::find` meets its contract. Assumes nothing.
use native.Mathlib.Omega.{arith}
use mathlib.Core.Path.{refl, sym, ◌∙◌}
use Rattle.steps.proofs.Branches.{find_shape}
use Rattle.halves.proofs.Fronts.{front_find}
use Rattle.parts.proofs.Checks.{passed, half_shaped, shape_fails}
use Rattle.halves.proofs.find.Goals as goal

pub returns-then-not-passes : goal.returns-then-not-passes
returns-then-not-passes c = find_shape _ _ (shape_fails _ _ _ _ _ (sym c.if-not-passes.ensures))

pub find_front-requires : goal.find_front-requires
find_front-requires c =
    let p = passed _ _ _ _ _ (sym c.if-not-passes.ensures) in
    let s = half_shaped p.0 p.1 c.args.growing.half in
    rw (c.of_half-words.ensures, c.of_half-deltas.ensures)
    (record { size = s.size; words = omega (arith, s.words, p.0.lower_words_length, p.0.upper_words_length, p.1.most); deltas = omega (arith, s.deltas, p.0.lower_deltas_length, p.0.upper_deltas_length, p.1.most) })

pub returns : goal.returns
returns c = c.find_front.ensures ∙ rw (c.of_half-words.ensures, c.of_half-deltas.ensures) (front_find _ _ _ _ _ (sym c.if-not-passes.ensures) c.args.growing.half refl _)
