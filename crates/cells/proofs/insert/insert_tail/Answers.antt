-- `cells::insert::insert_tail` meets its contract. Assumes nothing.
use Rattle.std.proofs.Common.{refl, ap, arith}
use Rattle.steps.proofs.Sizes.{size_least, size_greatest}
use Rattle.cells.specs.Workers.{hit_of}
use Rattle.cells.proofs.Shapes.{in_words}
use Rattle.cells.proofs.Doing.{did, left_all}
use Rattle.cells.proofs.Placing.{cell_as}
use Rattle.cells.proofs.Tails.{probed_so, found_within, tail_new, tail_out, tail_full}
use Rattle.cells.proofs.insert.insert_tail.Goals as goal

pub window_of-count-requires : goal.window_of-count-requires
window_of-count-requires c = omega (arith, size_least _ c.requires.0.size)

pub fill_cell-requires : goal.fill_cell-requires
fill_cell-requires c = in_words c.requires.0 _ c.cell_of-at.ensures

pub link-requires : goal.link-requires
link-requires c =
    (c.requires.0.size, c.requires.0.deltas, omega (arith, found_within _ _ _ _ _ _ c.window_of-count.ensures c.probe_from.ensures (ap hit_of c.in-Some.is)))

pub overflow_add-result : goal.overflow_add-result
overflow_add-result c =
    omega (arith, found_within _ _ _ _ _ _ c.window_of-count.ensures c.probe_from.ensures (ap hit_of c.in-Some.is), size_greatest _ c.requires.0.size, c.requires.1)

pub returns-then-live-size : goal.returns-then-live-size
returns-then-live-size c =
    let e = probed_so _ _ _ _ _ _ c.window_of-count.ensures c.probe_from.ensures (ap hit_of c.in-Some.is) in
    let q = tail_new _ _ _ _ _ _ _ _ _ _ _ e c.if-live-size.true c.wrapping_add_u64.ensures.value c.cell_of-at.ensures in
    record { done = did _ _ _ _ q c.fill_cell.ensures c.link.ensures; cell = cell_as _ _ _ q refl }

pub overflow_add-result-in-Some : goal.overflow_add-result-in-Some
overflow_add-result-in-Some c =
    omega (arith, found_within _ _ _ _ _ _ c.window_of-count.ensures c.probe_from.ensures (ap hit_of c.in-Some.is), size_greatest _ c.requires.0.size, c.requires.1)

pub returns-else-live-size : goal.returns-else-live-size
returns-else-live-size c =
    let q = tail_out _ _ _ _ _ _ _ _ _ (probed_so _ _ _ _ _ _ c.window_of-count.ensures c.probe_from.ensures (ap hit_of c.in-Some.is)) c.if-live-size.false in
    record { done = left_all _ _ _ q; cell = cell_as _ _ _ q refl }

pub returns-in-None : goal.returns-in-None
returns-in-None c =
    let q = tail_full _ _ _ _ _ _ _ _ _ _ c.window_of-count.ensures c.wrapping_add_u64-position.ensures.value (probed_so _ _ _ _ _ _ c.window_of-count.ensures c.probe_from.ensures (ap hit_of c.in-None.is)) in
    record { done = left_all _ _ _ q; cell = cell_as _ _ _ q refl }
