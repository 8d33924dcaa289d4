-- A whole move: where it ends with all gone over, the new table is built, with every taken cell live, and live is the source's.
-- Assumes nothing, of the source either.
use mathlib.Core.Bool.{true}
use mathlib.Core.List.{[]}
use mathlib.Core.Path.{◌≡◌, sym, ap, ◌∙◌}
use Prim.Native.Nat.{ℕ}
use native.Mathlib.Omega.{arith}
use Rattle.rules.specs.Sizes.{is_size}
use Rattle.rules.specs.Cells.{Params, Counts, is_live}
use Rattle.rules.specs.Moves.{Held, held_after_all, all, Moved, move_all}
use Rattle.rules.specs.Sound.{count, LiveCounts}
use Rattle.sound.specs.Built.{Built, AllLive}
use Rattle.sound.proofs.Positions.{size_wraps}
use Rattle.movelaws.specs.Carried.{IsClear, Carried}
use Rattle.movelaws.proofs.Steps as steps
use Rattle.movelaws.proofs.Steps.{WholeWay, whole_way}
use Rattle.movelaws.proofs.Carrying.{carried_none, stopped_not, cells_carried}

module _ (p : Params) (S : ℕ) (from : Held) (c : Counts) (clear : Held) (size : is_size p.S ≡ true) (empty : IsClear p.null p.S clear) (c' : Counts)
    (e : (move_all p.null S from c p.S clear).ended ≡ all c') where
  abbrev moved : Held
  moved = held_after_all (move_all p.null S from c p.S clear).fills clear

  abbrev way : WholeWay p.null S from c p.S clear (move_all p.null S from c p.S clear)
  way = whole_way p.null S from c p.S clear

  -- where a move ends with all gone over, the new table holds the live cells of the source and nothing else
  pub moved_carried : Carried p from S (held_after_all (move_all p.null S from c p.S clear).fills clear) c'
  moved_carried = go _ way e
    where
      go : (w : Moved) → WholeWay p.null S from c p.S clear w → w.ended ≡ all c' → Carried p from S (held_after_all w.fills clear) c'
      go w (steps.went d q t x) f =
          rw x (cells_carried p from (size_wraps p.S size) S 0 S (omega arith) clear (record { live = 0 }) c' (carried_none p from clear empty) (rw x at f))
      go w (steps.miscounted d q t x) f = stopped_not 5 [] c' w x f
      go w (steps.halted n l q x) f = let z : ◌≡◌ {A = ℕ} 0 1 = cc in absurd (omega arith)

  -- every taken cell of the new table is live: only live cells go over
  pub moved_all_live : AllLive p moved.cells moved.value
  moved_all_live = moved_carried.all_live

  -- the new table is built
  pub moved_built : Built p moved.cells moved.value
  moved_built = moved_carried.built

  -- the new record's live counts its live cells
  pub moved_live_counts : LiveCounts p moved.cells moved.value c'
  moved_live_counts = moved_carried.live_counts

  -- and is the source's live: a total that is not live is Broken
  pub moved_live : c'.live ≡ c.live
  moved_live = go _ way e
    where
      go : (w : Moved) → WholeWay p.null S from c p.S clear w → w.ended ≡ all c' → c'.live ≡ c.live
      go w (steps.went d q t x) f = let r : d ≡ c' = cc in sym (ap (λ (x : Counts). x.live) r) ∙ t
      go w (steps.miscounted d q t x) f = stopped_not 5 [] c' w x f
      go w (steps.halted n l q x) f = let z : ◌≡◌ {A = ℕ} 0 1 = cc in absurd (omega arith)

  -- so where a move ends well, live counted the source's live cells too
  pub source_live : c.live ≡ count (is_live p from.cells from.value) S
  source_live = sym moved_live ∙ moved_carried.total
