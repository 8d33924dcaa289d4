-- `cells::insert::insert_walked` meets its contract. Assumes nothing.
use Rattle.std.proofs.Common.{refl, ap, arith}
use Rattle.steps.proofs.Sizes.{size_least, size_greatest}
use Rattle.steps.proofs.Walking.{ends_most}
use Rattle.steps.proofs.Branches.{stored_met, stored_tail, stored_broken}
use Rattle.cells.specs.Workers.{stop_of, insert_tail}
use Rattle.cells.proofs.Shapes.{in_words}
use Rattle.cells.proofs.Doing.{left_all}
use Rattle.cells.proofs.Placing.{cell_as, inserted_as}
use Rattle.cells.proofs.insert.insert_walked.Goals as goal

pub insert_met-requires : goal.insert_met-requires
insert_met-requires c = (in_words c.requires.0 _ c.cell_of.ensures, size_greatest _ c.requires.0.size)

pub insert_tail-requires : goal.insert_tail-requires
insert_tail-requires c =
    let l = size_least _ c.requires.0.size in
    (c.requires.0, ends_most _ _ _ _ c.requires.2 (omega arith))

pub returns-in-Met : goal.returns-in-Met
returns-in-Met c = inserted_as _ _ (stored_met _ _ _ _ _ _ _ _ _ _ refl refl c.requires.1 c.requires.2 _ _ (ap stop_of c.in-Met.is) c.cell_of.ensures) (c.insert_met.ensures c.args.deltas.now)

pub returns-in-Tail : goal.returns-in-Tail
unfolding insert_tail
returns-in-Tail c = inserted_as _ _ (stored_tail _ _ _ _ _ _ _ _ _ _ refl refl c.requires.1 c.requires.2 _ (ap stop_of c.in-Tail.is)) c.insert_tail.ensures

pub returns-in-Broken : goal.returns-in-Broken
returns-in-Broken c =
    let q = stored_broken _ _ _ _ _ _ _ _ _ _ refl refl c.requires.1 c.requires.2 (ap stop_of c.in-Broken.is) in
    record { done = left_all _ _ _ q; cell = cell_as _ _ _ q refl }
