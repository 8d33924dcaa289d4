-- What a move does with one cell, where the destination holds what the cells before it gave. Assumes nothing.
use mathlib.Core.Bool.{Bool, true, false, cond}
use mathlib.Core.List.{List, [], ◌∷◌}
use mathlib.Core.Logic.{◌≢◌}
use mathlib.Core.Path.{◌≡◌, refl, sym, ap, ◌∙◌}
use Prim.Native.Nat.{ℕ, suc, ◌+◌, ◌<◌}
use borrow.Author.Tests.{eqb-true, eqb-false}
use lib.Dec.{eqb}
use Rattle.rules.specs.Cells.{Params, Counts, holds}
use Rattle.rules.specs.Answers.{new, refused, Link, Change, fill, Outcome}
use Rattle.rules.specs.Calls.{insert_stored}
use Rattle.rules.specs.Moves.{Held, held_after, Ended, all, stop, Moved, stop_with, cell_moved, move_cells, totalled, move_all}
use Rattle.rules.specs.Sound.{LiveCounts}
use Rattle.sound.specs.Built.{Built}
use Rattle.sound.specs.Stops.{Wraps}
use Rattle.sound.proofs.Does as does
use Rattle.sound.proofs.Does.{InsertDoes, insert_does}
use Rattle.movelaws.specs.Carried.{LiveAt}

-- the insert of cell i of a source
abbrev pub inserting : Params → Held → ℕ → Held → Counts → Outcome
inserting p from i to c = insert_stored p.S p.null to.cells to.value c (from.cells.hash i) (from.cells.key i) (from.value i)

-- the change that puts cell i of a source into the empty cell e, and what the move makes of the cells from i on by it
abbrev pub filling : Held → (i e : ℕ) → Link → Change
filling from i e l = fill e (from.cells.hash i) (from.cells.key i) (from.value i) l

abbrev pub after_fill : (null : ℕ) → Held → (T left i : ℕ) → Held → Counts → Change → Moved
after_fill null from T left i to c f =
    let rest = move_cells null from T left (i + 1) (held_after f to) (record { live = c.live + 1 }) in
    record { ended = rest.ended; fills = f ∷ rest.fills }

-- the ways of one cell
pub data CellWay (p : Params) (from : Held) (left i : ℕ) (to : Held) (c : Counts) (m : Moved) : Type 0 where
  -- a cell with the value null stays behind
  behind : from.value i ≡ p.null → m ≡ move_cells p.null from p.S left (i + 1) to c → CellWay p from left i to c m
  -- hash 0 with a value not null
  unhashed : from.value i ≢ p.null → from.cells.hash i ≡ 0 → m ≡ stop_with 5 [] → CellWay p from left i to c m
  -- New
  goes : LiveAt p.null from i → (e : ℕ) (l : Link) → e < p.S → to.cells.hash e ≡ 0
      → (n : ℕ) → inserting p from i to c ≡ record { said = new; looked = n; counts = record { live = c.live + 1 }; change = filling from i e l }
      → m ≡ after_fill p.null from p.S left i to c (filling from i e l)
      → CellWay p from left i to c m
  -- Full
  full : LiveAt p.null from i → (q : ℕ) → (inserting p from i to c).said ≡ refused 4 (q ∷ [])
      → m ≡ stop_with 4 (q ∷ [])
      → CellWay p from left i to c m
  -- its hash and key are there already
  again : LiveAt p.null from i → (e : ℕ) → e < p.S → holds to.cells e (from.cells.hash i) (from.cells.key i) ≡ true
      → m ≡ stop_with 5 []
      → CellWay p from left i to c m

module _ (p : Params) (from : Held) (left i : ℕ) (to : Held) (c : Counts) (b : Built p to.cells to.value) (live : LiveCounts p to.cells to.value c)
    (z : Wraps p.S) where
  abbrev h : ℕ
  h = from.cells.hash i

  abbrev k : ℕ
  k = from.cells.key i

  abbrev v : ℕ
  v = from.value i

  -- by what the insert does
  inserted : LiveAt p.null from i → (o : Outcome) → InsertDoes p to.cells to.value c h k v o
      → o ≡ inserting p from i to c
      → CellWay p from left i to c (cell_moved o.said o.change (move_cells p.null from p.S left (i + 1) (held_after o.change to) o.counts))
  inserted a o (does.fills n e l u empty lack eq) q = goes a e l u empty n (sym q ∙ eq) (rw eq)
  inserted a o (does.replaces n e u t d eq) q = again a e u t (rw eq)
  inserted a o (does.revives n e u t d eq) q = again a e u t (rw eq)
  inserted a o (does.is_full_lem n q y m x lack eq) w = full a _ (ap (λ (o : Outcome). o.said) (sym w ∙ eq)) (rw eq)

  -- a cell goes one of these ways
  pub cell_way : CellWay p from left i to c (move_cells p.null from p.S (suc left) i to c)
  unfolding move_cells
  cell_way = by (eqb v p.null) refl (eqb h 0) refl
    where
      by : (x : Bool) → eqb v p.null ≡ x → (y : Bool) → eqb h 0 ≡ y
          → CellWay p from left i to c
          (cond {A = Moved} x (move_cells p.null from p.S left (i + 1) to c)
          (cond {A = Moved} y (stop_with 5 [])
          (let o = inserting p from i to c in
          cell_moved o.said o.change (move_cells p.null from p.S left (i + 1) (held_after o.change to) o.counts))))
      by true e y f = behind (eqb-true _ _ e) refl
      by false e true f = unhashed (eqb-false _ _ e) (eqb-true _ _ f) refl
      by false e false f =
          inserted (record { taken = eqb-false _ _ f; valued = eqb-false _ _ e }) _
          (insert_does p to.cells to.value c b live z h k (eqb-false _ _ f) v) refl

-- ---- the whole move, by how its cells ended

pub data WholeWay (null S : ℕ) (from : Held) (c : Counts) (T : ℕ) (clear : Held) (w : Moved) : Type 0 where
  -- all went over, as many as live says
  went : (d : Counts) → (move_cells null from T S 0 clear (record { live = 0 })).ended ≡ all d → d.live ≡ c.live
      → w ≡ move_cells null from T S 0 clear (record { live = 0 })
      → WholeWay null S from c T clear w
  -- or another number of them
  miscounted : (d : Counts) → (move_cells null from T S 0 clear (record { live = 0 })).ended ≡ all d → d.live ≢ c.live
      → w ≡ stop_with 5 []
      → WholeWay null S from c T clear w
  -- a cell stopped it
  halted : (n : ℕ) (l : List ℕ) → (move_cells null from T S 0 clear (record { live = 0 })).ended ≡ stop n l
      → w ≡ move_cells null from T S 0 clear (record { live = 0 })
      → WholeWay null S from c T clear w

-- a move ends in one of these ways
pub whole_way : (null S : ℕ) (from : Held) (c : Counts) (T : ℕ) (clear : Held) → WholeWay null S from c T clear (move_all null S from c T clear)
unfolding move_all
whole_way null S from c T clear = go m.ended refl
  where
    m : Moved
    m = move_cells null from T S 0 clear (record { live = 0 })

    by : (d : Counts) → m.ended ≡ all d → (b : Bool) → eqb d.live c.live ≡ b → WholeWay null S from c T clear (cond {A = Moved} b m (stop_with 5 []))
    by d q true e = went d q (eqb-true _ _ e) refl
    by d q false e = miscounted d q (eqb-false _ _ e) refl

    go : (x : Ended) → m.ended ≡ x → WholeWay null S from c T clear (totalled c.live m x)
    go (all d) q = by d q (eqb d.live c.live) refl
    go (stop n l) q = halted n l q refl
