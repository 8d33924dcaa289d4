-- `checker::Cells::is_sound` meets its contract: the cells passed so far pass the test, and their live ones are counted. Assumes nothing.
use Rattle.std.proofs.Common.{◌≡◌, ◌≤◌, true}
use Rattle.rules.specs.Cells.{is_live}
use Rattle.rules.specs.Sound.{count}
use Rattle.cells.specs.Layout.{view, value_in, params_of}
use Rattle.checker.specs.Check.{all, cell_test}
use Rattle.checker.proofs.Cells.is_sound.Given as goal

abbrev pub invariant-loop-i : goal.invariant-loop-i
invariant-loop-i l =
    let p = params_of l.self.lent.size l.self.hasher in
    let cs = view l.self.lent.words.now l.self.lent.deltas.now in
    let values = value_in l.self.lent.words.now in
    (l.seen ≤ l.i) × (all (cell_test p cs values) l.i ≡ true) × (l.seen ≡ count (is_live p cs values) l.i)
