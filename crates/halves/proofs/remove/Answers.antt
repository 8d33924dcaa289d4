-- `halves::remove` meets its contract. Assumes nothing.
use native.Mathlib.Omega.{arith}
use mathlib.Core.Path.{sym}
use Rattle.halves.proofs.Leaving.{removed_lower, removed_upper, remove_kept}
use Rattle.parts.proofs.Checks.{passed}
use Rattle.halves.proofs.remove.Goals as goal

pub remove_front-done-requires : goal.remove_front-done-requires
remove_front-done-requires c =
    let p = passed _ _ _ _ _ (sym c.if-not-passes.ensures) in
    let h = p.0 in
    let f = p.1 in
    record { size = f.size; words = omega arith; deltas = omega arith }

pub returns-in-Lower : goal.returns-in-Lower
returns-in-Lower c = removed_lower _ _ _ _ _ c.args.key (sym c.if-not-passes.ensures) c.remove_front-done.result _ c.removed_from.ensures c.in-Lower.is _ c.remove_front-done.ensures

pub remove_front-done-requires-in-Upper : goal.remove_front-done-requires-in-Upper
remove_front-done-requires-in-Upper c =
    let p = passed _ _ _ _ _ (sym c.if-not-passes.ensures) in
    let h = p.0 in
    let f = p.1 in
    record { size = f.size; words = omega arith; deltas = omega arith }

pub returns-in-Upper : goal.returns-in-Upper
returns-in-Upper c = removed_upper _ _ _ _ _ c.args.key (sym c.if-not-passes.ensures) c.remove_front-done-in-Upper.result _ c.removed_from-in-Upper.ensures c.in-Upper.is _ c.remove_front-done-in-Upper.ensures

pub returns-then-not-passes : goal.returns-then-not-passes
returns-then-not-passes c = remove_kept _ _ _ _ _ c.args.key (sym c.if-not-passes.ensures)
