-- `halves::clear_halves` meets its contract. Assumes nothing.
use native.Mathlib.Omega.{arith}
use mathlib.Core.Path.{sym}
use Rattle.halves.proofs.Cleared.{clears, keeps_size, keeps_halves}
use Rattle.parts.proofs.Checks.{halves_hold}
use Rattle.halves.proofs.clear_halves.Goals as goal

pub returns-then-not-are_halves : goal.returns-then-not-are_halves
returns-then-not-are_halves c = keeps_halves _ _ _ _ _ _ (sym c.if-not-are_halves.ensures)

pub returns-then-not-size_fits : goal.returns-then-not-size_fits
returns-then-not-size_fits c = keeps_size _ _ _ _ _ _ (sym c.if-not-are_halves.ensures) (sym c.if-not-size_fits.ensures)

pub clear_both-requires : goal.clear_both-requires
clear_both-requires c = let h = halves_hold _ _ _ _ (sym c.if-not-are_halves.ensures) in (omega arith, omega arith)

pub clear_both-requires-2 : goal.clear_both-requires-2
clear_both-requires-2 c = let h = halves_hold _ _ _ _ (sym c.if-not-are_halves.ensures) in (omega arith, omega arith)

pub returns : goal.returns
returns c = clears _ _ _ _ _ _ (sym c.if-not-are_halves.ensures) (sym c.if-not-size_fits.ensures) _ _ _ _ c.clear_both.ensures.0 c.clear_both.ensures.1 c.clear_both-2.ensures.0 c.clear_both-2.ensures.1
