-- A move from a built table whose live counts its live cells is never Broken: neither by a cell nor by its total. So a move from a
-- table that a move made is not, nor one from a sound table. Assumes nothing.
use mathlib.Core.Bool.{true}
use mathlib.Core.List.{List}
use mathlib.Core.Logic.{◌≢◌}
use mathlib.Core.Path.{◌≡◌, refl, sym, ◌∙◌}
use Prim.Native.Nat.{ℕ, zero, suc, ◌+◌, ◌<◌}
use native.Mathlib.Omega.{arith}
use Rattle.rules.specs.Sizes.{is_size}
use Rattle.rules.specs.Cells.{Params, Counts, holds}
use Rattle.rules.specs.Moves.{Held, held_after_all, Ended, all, stop, Moved, move_cells, move_all}
use Rattle.rules.specs.Sound.{Sound, LiveCounts}
use Rattle.sound.specs.Built.{Built}
use Rattle.sound.specs.Stops.{Wraps}
use Rattle.sound.proofs.Positions.{size_wraps}
use Rattle.sound.proofs.Walks.{holds_both}
use Rattle.sound.proofs.Meeting.{sound_built}
use Rattle.sound.proofs.Live.{null_not_live}
use Rattle.movelaws.specs.Carried.{IsClear, LiveAt, Carried}
use Rattle.movelaws.specs.Movable.{at_size, Movable, Unbroken, went, full}
use Rattle.movelaws.proofs.Steps as steps
use Rattle.movelaws.proofs.Steps.{CellWay, cell_way, WholeWay, whole_way}
use Rattle.movelaws.proofs.Carrying.{carried_none, carried_behind, carried_goes, cells_carried}
use Rattle.movelaws.proofs.Moved.{moved_built, moved_live_counts}

-- ---- such sources

-- a built table
pub built_movable : (p : Params) (t : Held) (c : Counts) → Built p t.cells t.value → LiveCounts p t.cells t.value c → Movable p t c
built_movable p t c b live =
    record {
      empty_null = λ i u e. (b.empty_clear i u e).no_value;
      pairs_differ = λ i j u w x y h k. b.pairs_differ i j u w x.taken h k;
      live_counts = live;
    }

-- a sound table
pub sound_movable : (p : Params) (t : Held) (c : Counts) → Sound p t.cells t.value c → Movable p t c
sound_movable p t c s = built_movable p t c (sound_built p t.cells t.value c s) s.live_counts

-- a table that a move made, from any source
pub moved_movable : (p : Params) (S : ℕ) (from : Held) (c : Counts) (clear : Held) → is_size p.S ≡ true → IsClear p.null p.S clear → (c' : Counts)
    → (move_all p.null S from c p.S clear).ended ≡ all c'
    → Movable p (held_after_all (move_all p.null S from c p.S clear).fills clear) c'
moved_movable p S from c clear size empty c' e =
    built_movable p _ c' (moved_built p S from c clear size empty c' e) (moved_live_counts p S from c clear size empty c' e)

-- ---- never Broken

module _ (p : Params) (from : Held) (c : Counts) (m : Movable p from c) (T : ℕ) where
  abbrev to_t : Params
  to_t = at_size p T

  -- the hash and key of a live cell are not there before it
  none_twice : (i : ℕ) → i < p.S → (to : Held) (d : Counts) → Carried to_t from i to d → LiveAt p.null from i → (e : ℕ) → e < T
      → holds to.cells e (from.cells.hash i) (from.cells.key i) ≢ true
  none_twice i u to d y a e w t =
      let b = holds_both to.cells e (from.cells.hash i) (from.cells.key i) t in
      let o = y.back e w (λ x. a.taken (sym b.0 ∙ x)) in
      let q : o.cell ≡ i = m.pairs_differ o.cell i (omega (arith, o.below)) u o.live a (sym o.same.hash ∙ b.0) (sym o.same.key ∙ b.1) in
      omega (arith, o.below)

  module _ (z : Wraps T) where
    -- from cell i on
    cells_unbroken : (left i : ℕ) → i + left ≡ p.S → (to : Held) (d : Counts) → Carried to_t from i to d
        → Unbroken (move_cells p.null from T left i to d).ended
    unfolding move_cells
    cells_unbroken zero i s to d y = went d refl
    cells_unbroken (suc left) i s to d y =
        go _ (cell_way to_t from left i to d y.built y.live_counts z) (λ to d y. cells_unbroken left (i + 1) (omega arith) to d y)
      where
        go : (w : Moved) → CellWay to_t from left i to d w
            → ((to : Held) (d : Counts) → Carried to_t from (i + 1) to d → Unbroken (move_cells p.null from T left (i + 1) to d).ended)
            → Unbroken w.ended
        go w (steps.behind v q) ih =
            rw q (ih to d (carried_behind to_t from i to d y (null_not_live to_t from.cells from.value i v) (λ a. a.valued v)))
        go w (steps.unhashed v h q) ih = absurd (v (m.empty_null i (omega arith) h))
        go w (steps.goes a e l u empty n eq q) ih = rw q (ih _ _ (carried_goes to_t from i to d y z a e l u empty n eq))
        go w (steps.full a n x q) ih = full n (rw q)
        go w (steps.again a e u t q) ih = absurd (none_twice i (omega arith) to d y a e u t)

  -- 01's Broken of a move ("meets hash 0 with a value not null, gets any answer but New or Full for a cell, or its total is not
  -- live") is never met: all go over, or it is Full
  pub move_unbroken : (clear : Held) → is_size T ≡ true → IsClear p.null T clear → Unbroken (move_all p.null p.S from c T clear).ended
  move_unbroken clear size empty = go _ (whole_way p.null p.S from c T clear)
    where
      z : Wraps T
      z = size_wraps T size

      start : Carried to_t from 0 clear (record { live = 0 })
      start = carried_none to_t from clear empty

      cells : Unbroken (move_cells p.null from T p.S 0 clear (record { live = 0 })).ended
      cells = cells_unbroken z p.S 0 (omega arith) clear (record { live = 0 }) start

      go : (w : Moved) → WholeWay p.null p.S from c T clear w → Unbroken w.ended
      go w (steps.went d q t x) = rw x cells
      go w (steps.miscounted d q t x) =
          absurd (t ((cells_carried to_t from z p.S 0 p.S (omega arith) clear (record { live = 0 }) d start q).total ∙ sym m.live_counts))
      go w (steps.halted n l q x) = rw x cells

  -- so never 5
  pub move_never_5 : (clear : Held) → is_size T ≡ true → IsClear p.null T clear → (l : List ℕ) → (move_all p.null p.S from c T clear).ended ≢ stop 5 l
  move_never_5 clear size empty l e = go _ (move_unbroken clear size empty) e
    where
      go : (x : Ended) → Unbroken x → x ≢ stop 5 l
      go x (went d q) f = let n : ◌≡◌ {A = ℕ} 0 1 = cc in omega arith
      go x (full d q) f = let n : ◌≡◌ {A = ℕ} 4 5 = cc in omega arith

-- a second move, from the table that a first one made of any source, is never 5
pub second_never_5 : (p : Params) (S : ℕ) (from : Held) (c : Counts) (clear : Held) → is_size p.S ≡ true → IsClear p.null p.S clear → (c' : Counts)
    → (move_all p.null S from c p.S clear).ended ≡ all c'
    → (T : ℕ) (next : Held) → is_size T ≡ true → IsClear p.null T next → (l : List ℕ)
    → (move_all p.null p.S (held_after_all (move_all p.null S from c p.S clear).fills clear) c' T next).ended ≢ stop 5 l
second_never_5 p S from c clear size empty c' e T next =
    move_never_5 p (held_after_all (move_all p.null S from c p.S clear).fills clear) c' (moved_movable p S from c clear size empty c' e) T next
