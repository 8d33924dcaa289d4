-- `parts::used::part` meets its contract. Assumes nothing.
use native.Mathlib.Omega.{arith}
use mathlib.Core.Path.{sym}
use lib.ListN.{length-take}
use Rattle.parts.proofs.Cutting.{front_within, part_within, part_cut, part_none}
use Rattle.parts.proofs.used.part.Goals as goal

pub returns-then-not-pair_passes : goal.returns-then-not-pair_passes
returns-then-not-pair_passes g c = part_none _ _ _ _ _ (sym c.if-not-pair_passes.ensures)

pub overflow_mul-front : goal.overflow_mul-front
overflow_mul-front g c = let w = front_within _ _ _ _ _ (sym c.if-not-pair_passes.ensures) in omega arith

pub slice_bounds-result-end-2 : goal.slice_bounds-result-end-2
slice_bounds-result-end-2 g c = let w = part_within _ _ _ _ _ (sym c.if-not-pair_passes.ensures) _ c.of_half.ensures in simp length-take (omega arith)

pub returns : goal.returns
returns g c = part_cut _ _ _ _ _ (sym c.if-not-pair_passes.ensures) _ c.of_half.ensures
