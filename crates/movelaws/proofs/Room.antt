-- A move into room: Full takes a tail and a whole window of taken cells, so that a move of no more live cells than that is never Full.
-- They are 129, or T at sizes up to 128. Assumes nothing.
use mathlib.Core.Bool.{Bool, true}
use mathlib.Core.List.{[], ◌∷◌}
use mathlib.Core.Logic.{◌≢◌}
use mathlib.Core.Path.{◌≡◌, refl, sym, ap, ◌∙◌}
use Prim.Native.Nat.{ℕ, zero, suc, ◌+◌, ◌-◌, ◌≤◌, ◌<◌}
use native.Mathlib.Omega.{arith}
use Rattle.rules.specs.Sizes.{is_size, probe_limit}
use Rattle.rules.specs.Cells.{Params, Counts, is_live}
use Rattle.rules.specs.Moves.{Held, Ended, all, stop, Moved, move_cells, move_all}
use Rattle.rules.specs.Answers.{refused}
use Rattle.rules.specs.Sound.{one, count}
use Rattle.laws.proofs.Full.{stored_full_exactly}
use Rattle.sound.specs.State.{Small}
use Rattle.sound.specs.Stops.{Wraps}
use Rattle.sound.proofs.Positions.{size_wraps}
use Rattle.sound.proofs.Live.{is_live_lem, null_not_live}
use Rattle.sound.proofs.Empties.{all_live_and_empties, taken_and_empties}
use Rattle.movelaws.specs.Carried.{IsClear, LiveAt, Carried}
use Rattle.movelaws.specs.Movable.{at_size, Movable, Unbroken, went, full, Roomy}
use Rattle.movelaws.proofs.Steps as steps
use Rattle.movelaws.proofs.Steps.{CellWay, cell_way, inserting, WholeWay, whole_way}
use Rattle.movelaws.proofs.Carrying.{count_next, carried_none, carried_behind, carried_goes}
use Rattle.movelaws.proofs.Crowded.{full_crowded}
use Rattle.movelaws.proofs.Unbroken.{move_unbroken}

-- more cells hold no fewer live ones
count_more : (f : ℕ → Bool) (i left : ℕ) → count f i ≤ count f (i + left)
count_more f i zero = let e : i + zero ≡ i = omega arith in rw e (omega arith)
count_more f i (suc left) =
    let e : i + suc left ≡ i + left + 1 = omega arith in
    rw e (omega (arith, count_more f i left, count_next f (i + left)))

module _ (p : Params) (from : Held) (n : ℕ) (z : Wraps p.S) (room : Roomy p.S (count (is_live p from.cells from.value) n)) where
  -- a live cell below n finds room: where its insert is Full, too many have gone over before it
  not_full : (i : ℕ) → i < n → (to : Held) (d : Counts) → Carried p from i to d → LiveAt p.null from i → (q : ℕ)
      → (inserting p from i to d).said ≢ refused 4 (q ∷ [])
  not_full i u to d y a q e =
      let when = (stored_full_exactly p.S p.null to.cells to.value d (from.cells.hash i) (from.cells.key i) (from.value i)).0
      (record { carried = q ∷ []; says = e }) in
      let test = is_live p from.cells from.value in
      let w : i + 1 + (n - (i + 1)) ≡ n = omega arith in
      omega (
        arith,
        full_crowded p to.cells to.value y.built z (from.cells.hash i) (from.cells.key i) a.taken when,
        all_live_and_empties p to.cells to.value d y.all_live y.live_counts,
        taken_and_empties p.S to.cells,
        y.total,
        count_next test i,
        ap one (is_live_lem p from.cells from.value i a.taken a.valued),
        rw w at (count_more test (i + 1) (n - (i + 1))),
      )

  -- from cell i on
  cells_room : (left i : ℕ) → i + left ≡ n → (to : Held) (d : Counts) → Carried p from i to d → (q : ℕ)
      → (move_cells p.null from p.S left i to d).ended ≢ stop 4 (q ∷ [])
  unfolding move_cells
  cells_room zero i s to d y q e = let n : ◌≡◌ {A = ℕ} 0 1 = cc in omega arith
  cells_room (suc left) i s to d y q e =
      go _ (cell_way p from left i to d y.built y.live_counts z) (λ to d y. cells_room left (i + 1) (omega arith) to d y q) e
    where
      go : (w : Moved) → CellWay p from left i to d w
          → ((to : Held) (d : Counts) → Carried p from (i + 1) to d → (move_cells p.null from p.S left (i + 1) to d).ended ≢ stop 4 (q ∷ []))
          → w.ended ≢ stop 4 (q ∷ [])
      go w (steps.behind v x) ih f =
          ih to d (carried_behind p from i to d y (null_not_live p from.cells from.value i v) (λ a. a.valued v)) (rw x at f)
      go w (steps.unhashed v h x) ih f = let n : ◌≡◌ {A = ℕ} 4 5 = cc in omega arith
      go w (steps.goes a e l u empty n eq x) ih f = ih _ _ (carried_goes p from i to d y z a e l u empty n eq) (rw x at f)
      go w (steps.full a r o x) ih f = not_full i (omega arith) to d y a r o
      go w (steps.again a e u t x) ih f = let n : ◌≡◌ {A = ℕ} 4 5 = cc in omega arith

-- ---- a whole move

-- from any source, sound or not, whose live cells find room: not Full
pub move_never_full : (p : Params) (S : ℕ) (from : Held) (c : Counts) (clear : Held) → is_size p.S ≡ true → IsClear p.null p.S clear
    → Roomy p.S (count (is_live p from.cells from.value) S)
    → (q : ℕ) → (move_all p.null S from c p.S clear).ended ≢ stop 4 (q ∷ [])
move_never_full p S from c clear size empty room q e = go _ (whole_way p.null S from c p.S clear) e
  where
    cells : (move_cells p.null from p.S S 0 clear (record { live = 0 })).ended ≢ stop 4 (q ∷ [])
    cells = cells_room p from S (size_wraps p.S size) room S 0 (omega arith) clear (record { live = 0 }) (carried_none p from clear empty) q

    go : (w : Moved) → WholeWay p.null S from c p.S clear w → w.ended ≢ stop 4 (q ∷ [])
    go w (steps.went d x t y) f = cells (rw y at f)
    go w (steps.miscounted d x t y) f = let n : ◌≡◌ {A = ℕ} 4 5 = cc in omega arith
    go w (steps.halted n l x y) f = cells (rw y at f)

module _ (p : Params) (from : Held) (c : Counts) (m : Movable p from c) (T : ℕ) (clear : Held) (size : is_size T ≡ true) (empty : IsClear p.null T clear) where
  -- so a move of a sound table, or of one that a move made, succeeds where its live finds room
  pub move_succeeds : Roomy T c.live → (d : Counts) × ((move_all p.null p.S from c T clear).ended ≡ all d)
  move_succeeds room = go _ (move_unbroken p from c m T clear size empty) refl
    where
      go : (x : Ended) → Unbroken x → x ≡ (move_all p.null p.S from c T clear).ended → (d : Counts) × (x ≡ all d)
      go x (went d q) e = (d, q)
      go x (full q f) e = absurd (move_never_full (at_size p T) p.S from c clear size empty (omega (arith, m.live_counts)) q (sym e ∙ f))

  -- that is at sizes up to 128, where it is at most the new size
  pub small_move_succeeds : Small T → c.live ≤ T → (d : Counts) × ((move_all p.null p.S from c T clear).ended ≡ all d)
  small_move_succeeds small room = move_succeeds (omega (arith, (size_wraps T size).some))

  -- at greater sizes, where it is at most 129
  pub large_move_succeeds : probe_limit < T → c.live ≤ probe_limit + 1 → (d : Counts) × ((move_all p.null p.S from c T clear).ended ≡ all d)
  large_move_succeeds large room = move_succeeds (omega arith)
