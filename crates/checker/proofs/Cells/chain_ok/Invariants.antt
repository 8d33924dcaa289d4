-- `checker::Cells::chain_ok` meets its contract: what is left of the chain is tested like the whole. Assumes nothing.
use Rattle.std.proofs.Common.{◌≡◌, ◌-◌, ◌%◌, get_or}
use Rattle.cells.specs.Layout.{view, first_at}
use Rattle.checker.specs.Check.{chain_test}
use Rattle.checker.proofs.Cells.chain_ok.Given as goal

abbrev pub invariant-loop-link : goal.invariant-loop-link
invariant-loop-link l =
    let S = l.self.lent.size in
    let cs = view l.self.lent.words.now l.self.lent.deltas.now in
    chain_test S cs l.home (S - 1) l.home (get_or l.self.lent.deltas.now (first_at l.home) 0) ≡ chain_test S cs l.home (S - l._link) (l.at % S) l.delta
