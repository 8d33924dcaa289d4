-- `growth::grow_in` meets its contract. Assumes nothing.
use mathlib.Core.Path.{refl, ap, ◌∙◌}
use native.Mathlib.Omega.{arith}
use Rattle.parts.specs.Halves.{half_of}
use Rattle.growth.specs.Growth.{grew_from, rounds_on}
use Rattle.growth.proofs.Loop.{turning, sides, few, stops, goes_on}
use Rattle.growth.proofs.grow_in.Goals as goal

pub loop-said-init : goal.loop-said-init
loop-said-init c = (refl, turning _ _ _ _ _ _ _ _ _ _ _ c.requires)

pub turn-turned-requires : goal.turn-turned-requires
turn-turned-requires c = sides _ _ _ _ _ _ _ _ _ _ _ _ _ _ _ _ _ _ c.loop-said.invariant.1

pub returns-in-Answered : goal.returns-in-Answered
returns-in-Answered c = λ hasher.
    ap (λ g. record { grown = g; hasher = c.loop-said.growing.table.hasher })
    (stops _ _ _ _ _ _ _ _ _ _ _ _ _ _ _ _ _ _ c.loop-said.invariant.1 _ c.turn-turned.result.end refl c.turn-turned.ensures c.in-Answered.said c.in-Answered.is hasher)
    ∙ ap (λ t. record { grown = grew_from c.args.cells (rounds_on c.args.cells hasher c.args.growing.size (half_of c.args.growing.half) t.live c.args.cell.hash c.args.cell.key c.args.cell.value c.args.lower_words.now c.args.lower_deltas.now c.args.upper_words.now c.args.upper_deltas.now) c.args.lower_words.now c.args.lower_deltas.now c.args.upper_words.now c.args.upper_deltas.now; hasher = t.hasher }) c.loop-said.invariant.0

pub overflow_add-moves : goal.overflow_add-moves
overflow_add-moves c = let f = few _ _ _ _ _ _ _ _ _ _ _ _ _ _ _ _ _ _ c.loop-said.invariant.1 in omega arith

pub loop-said-smaller : goal.loop-said-smaller
loop-said-smaller c = let f = few _ _ _ _ _ _ _ _ _ _ _ _ _ _ _ _ _ _ c.loop-said.invariant.1 in omega arith

pub loop-said-preserved : goal.loop-said-preserved
loop-said-preserved c =
    let k = c.turn-turned.auto in (
      c.loop-said.invariant.0,
      goes_on _ _ _ _ _ _ _ _ _ _ _ _ _ _ _ _ _ _ c.loop-said.invariant.1 _ c.turn-turned.result.end refl c.turn-turned.ensures c.in-Moved.to c.in-Moved.is k.lower_words k.lower_deltas k.upper_words k.upper_deltas _ c.other-growing.ensures,
    )
