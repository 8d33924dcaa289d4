-- `moving::move_cells` meets its contract: at each turn the move is what is left of it. Assumes nothing.
use mathlib.Core.List.{List}
use mathlib.Core.Path.{◌≡◌}
use Prim.Native.Nat.{ℕ}
use lib.ListN.{length}
use Rattle.rules.specs.Moves.{move_cells}
use Rattle.cells.specs.Layout.{null, counts_of}
use Rattle.moving.specs.Slices.{held_in}
use Rattle.moving.specs.Ends.{placed_by}
use Rattle.moving.proofs.Moving.{Left}
use Rattle.moving.proofs.move_cells.Given as goal

abbrev pub invariant-loop-i : goal.invariant-loop-i
invariant-loop-i l =
    (length l.words ≡ length l.initial.words) × (length l.deltas ≡ length l.initial.deltas) × ((ds : List ℕ) → Left (held_in l.from ds) l.size l.to l.i l.words l.deltas l.live (placed_by (move_cells null (held_in l.from ds) l.to l.size 0 (held_in l.initial.words l.initial.deltas) (counts_of 0)) l.initial.words l.initial.deltas))
