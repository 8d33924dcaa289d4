-- `cells::clear::clear_words` meets its contract. Assumes nothing.
use Rattle.std.proofs.Common.{◌≡◌, ℕ, ◌*◌, ◌++◌, drop, refl, ap, ◌∙◌, arith}
use Rattle.cells.specs.Layout.{fresh_words}
use Rattle.cells.proofs.Clearing.{fresh_none, fresh_more, fresh_all}
use Rattle.cells.proofs.clear.clear_words.Goals as goal

pub loop-i-init : goal.loop-i-init
loop-i-init c = (refl, fresh_none _)

pub loop-i-preserved : goal.loop-i-preserved
loop-i-preserved c =
    (c.fill_cell.auto.words ∙ c.loop-i.invariant.0, fresh_more c.loop-i.i c.args.words.now _ _ (omega arith) c.loop-i.invariant.1 c.fill_cell.ensures)

pub shape_of-words : goal.shape_of-words
shape_of-words c = c.loop-i.invariant.0

pub returns : goal.returns
returns c =
    let end : c.loop-i.i ≡ c.args.cells = omega arith in
    fresh_all c.args.cells c.args.words.now _ c.requires (c.loop-i.invariant.1 ∙ ap (λ (k : ℕ). fresh_words k ++ drop (3 * k) c.args.words.now) end)
