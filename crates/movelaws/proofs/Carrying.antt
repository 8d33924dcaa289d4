-- Where all cells of a move go over, the destination holds the live cells of the source and nothing else. Assumes nothing, of the
-- source either.
use mathlib.Core.Bool.{Bool, false}
use mathlib.Core.List.{List, [], ◌∷◌}
use mathlib.Core.Logic.{◌≢◌}
use mathlib.Core.Path.{◌≡◌, refl, sym, ap, ◌∙◌}
use Prim.Native.Nat.{ℕ, zero, suc, ◌+◌, ◌≤◌, ◌<◌}
use native.Mathlib.Decide.{ℕ_discrete}
use native.Mathlib.Omega.{arith}
use Rattle.rules.specs.Cells.{Params, Counts, is_live}
use Rattle.rules.specs.Answers.{new, Link}
use Rattle.rules.specs.Moves.{Held, held_after, held_after_all, all, Moved, stop_with, move_cells}
use Rattle.rules.specs.Sound.{Taken, one, count, Fresh}
use Rattle.sound.specs.Stops.{Wraps}
use Rattle.sound.proofs.Filling.{changed_own, changed_other}
use Rattle.sound.proofs.Building.{fresh_built, fresh_all_live, stored_keeps_built, stored_keeps_all_live}
use Rattle.sound.proofs.Does.{stored_keeps_live}
use Rattle.sound.proofs.Keeping.{fresh_sound}
use Rattle.sound.proofs.Live.{is_live_lem, null_not_live}
use Rattle.movelaws.specs.Carried.{IsClear, LiveAt, SameCell, CopyOf, OriginOf, Carried}
use Rattle.movelaws.proofs.Steps as steps
use Rattle.movelaws.proofs.Steps.{CellWay, cell_way, inserting, filling}

-- ---- the start

-- a cleared destination is a fresh table with live 0
pub clear_fresh : (p : Params) (t : Held) → IsClear p.null p.S t → Fresh p t.cells t.value (record { live = 0 })
clear_fresh p t e = record { empty = e.empty; clear = e.clear; none_live = refl }

-- what is clear as far as C is clear as far as any T up to it
pub clear_less : (null C T : ℕ) (t : Held) → T ≤ C → IsClear null C t → IsClear null T t
clear_less null C T t l e = record { empty = λ i u. e.empty i (omega arith); clear = λ i u. e.clear i (omega arith) }

-- before the first cell
pub carried_none : (p : Params) (from clear : Held) → IsClear p.null p.S clear → Carried p from 0 clear (record { live = 0 })
unfolding count
carried_none p from clear e =
    let f = clear_fresh p clear e in
    record {
      built = fresh_built p _ _ _ f;
      all_live = fresh_all_live p _ _ _ f;
      live_counts = (fresh_sound p _ _ _ f).live_counts;
      there = λ i u a. absurd (omega arith);
      back = λ i u t. absurd (t (e.empty i u));
      total = refl;
    }

-- ---- one cell more

-- the count of one cell more
pub count_next : (f : ℕ → Bool) (n : ℕ) → count f (n + 1) ≡ one (f n) + count f n
unfolding count
count_next f n = let e : n + 1 ≡ suc n = omega arith in ap (count f) e

module _ (p : Params) (from : Held) (n : ℕ) (to : Held) (c : Counts) (y : Carried p from n to c) where
  -- what came from a cell below n came from one below n + 1
  older : (to' : Held) (e : ℕ) → OriginOf p.null n from to e → SameCell to to' e e → OriginOf p.null (n + 1) from to' e
  older to' e o s =
      record {
        cell = o.cell;
        below = omega (arith, o.below);
        live = o.live;
        same = record { hash = s.hash ∙ o.same.hash; key = s.key ∙ o.same.key; value = s.value ∙ o.same.value };
      }

  -- a cell that is not live, left behind
  pub carried_behind : is_live p from.cells from.value n ≡ false → (LiveAt p.null from n → ⊥) → Carried p from (n + 1) to c
  carried_behind f d =
      record {
        built = y.built;
        all_live = y.all_live;
        live_counts = y.live_counts;
        there = λ i u a. go i u a (ℕ_discrete i n);
        back = λ e u t. older to e (y.back e u t) (record { hash = refl; key = refl; value = refl });
        total = omega (arith, y.total, count_next (is_live p from.cells from.value) n, ap one f);
      }
    where
      go : (i : ℕ) → i < n + 1 → LiveAt p.null from i → Dec (i ≡ n) → CopyOf p.S from to i
      go i u a (yes q) = absurd (d (rw q at a))
      go i u a (no q) = y.there i (omega arith) a

  -- a live cell put into an empty cell e by an insert that said New
  module _ (z : Wraps p.S) (a : LiveAt p.null from n) (e : ℕ) (l : Link) (u : e < p.S) (empty : to.cells.hash e ≡ 0) (looked : ℕ)
      (eq : inserting p from n to c ≡ record { said = new; looked = looked; counts = record { live = c.live + 1 }; change = filling from n e l }) where
    abbrev next : Held
    next = held_after (filling from n e l) to

    -- the new cell is the source's, all others stay
    own : SameCell from next n e
    own =
        record {
          hash = changed_own e (from.cells.hash n) to.cells.hash;
          key = changed_own e (from.cells.key n) to.cells.key;
          value = changed_own e (from.value n) to.value;
        }

    other : (j : ℕ) → j ≢ e → SameCell to next j j
    other j d =
        record {
          hash = changed_other e (from.cells.hash n) to.cells.hash j d;
          key = changed_other e (from.cells.key n) to.cells.key j d;
          value = changed_other e (from.value n) to.value j d;
        }

    was_taken : (j : ℕ) → Taken to.cells j → j ≢ e
    was_taken j t q = t (ap to.cells.hash q ∙ empty)

    there_next : (i : ℕ) → i < n + 1 → LiveAt p.null from i → Dec (i ≡ n) → CopyOf p.S from next i
    there_next i w b (yes q) = rw q (record { cell = e; below = u; same = own })
    there_next i w b (no q) =
        let o = y.there i (omega arith) b in
        let s = other o.cell (was_taken o.cell (λ x. b.taken (sym o.same.hash ∙ x))) in
        record {
          cell = o.cell;
          below = o.below;
          same = record { hash = s.hash ∙ o.same.hash; key = s.key ∙ o.same.key; value = s.value ∙ o.same.value };
        }

    back_next : (j : ℕ) → j < p.S → Taken next.cells j → Dec (j ≡ e) → OriginOf p.null (n + 1) from next j
    back_next j w t (yes q) = rw q (record { cell = n; below = omega arith; live = a; same = own })
    back_next j w t (no q) =
        let s = other j q in
        older next j (y.back j w (λ x. t (s.hash ∙ x))) s

    -- and the table holds one live cell more
    pub carried_goes : Carried p from (n + 1) next (record { live = c.live + 1 })
    carried_goes =
        record {
          built = rw eq at (stored_keeps_built p to.cells to.value c h k v a.taken z y.built);
          all_live = rw eq at (stored_keeps_all_live p to.cells to.value c h k v a.taken y.all_live a.valued);
          live_counts = rw eq at (stored_keeps_live p to.cells to.value c y.built y.live_counts z h k a.taken v a.valued);
          there = λ i w b. there_next i w b (ℕ_discrete i n);
          back = λ j w t. back_next j w t (ℕ_discrete j e);
          total = omega (arith, y.total, count_next (is_live p from.cells from.value) n, ap one (is_live_lem p from.cells from.value n a.taken a.valued));
        }
      where
        h : ℕ
        h = from.cells.hash n

        k : ℕ
        k = from.cells.key n

        v : ℕ
        v = from.value n

-- ---- all cells

-- a stop is not an end
pub stopped_not : {A : Type 0} (n : ℕ) (l : List ℕ) (c : Counts) (m : Moved) → m ≡ stop_with n l → m.ended ≡ all c → A
stopped_not n l c m e f = let z : ◌≡◌ {A = ℕ} 0 1 = cc in absurd (omega arith)

module _ (p : Params) (from : Held) (z : Wraps p.S) where
  -- from cell i on, up to cell n
  pub cells_carried : (left i n : ℕ) → i + left ≡ n → (to : Held) (c c' : Counts) → Carried p from i to c
      → (move_cells p.null from p.S left i to c).ended ≡ all c'
      → Carried p from n (held_after_all (move_cells p.null from p.S left i to c).fills to) c'
  unfolding move_cells
  cells_carried zero i n s to c c' y e = let q : c ≡ c' = cc in let r : i ≡ n = omega arith in rw (← q, ← r) y
  cells_carried (suc left) i n s to c c' y e =
      go _ (cell_way p from left i to c y.built y.live_counts z) e
      (λ to c y e. cells_carried left (i + 1) n (omega arith) to c c' y e)
    where
      go : (m : Moved) → CellWay p from left i to c m → m.ended ≡ all c'
          → ((to : Held) (c : Counts) → Carried p from (i + 1) to c → (move_cells p.null from p.S left (i + 1) to c).ended ≡ all c'
          → Carried p from n (held_after_all (move_cells p.null from p.S left (i + 1) to c).fills to) c')
          → Carried p from n (held_after_all m.fills to) c'
      go m (steps.behind v q) f ih =
          rw q (ih to c (carried_behind p from i to c y (null_not_live p from.cells from.value i v) (λ a. a.valued v)) (rw q at f))
      go m (steps.unhashed v h q) f ih = stopped_not 5 [] c' m q f
      go m (steps.goes a e l u empty x eq q) f ih = rw q (ih _ _ (carried_goes p from i to c y z a e l u empty x eq) (rw q at f))
      go m (steps.full a x s q) f ih = stopped_not 4 (x ∷ []) c' m q f
      go m (steps.again a e u t q) f ih = stopped_not 5 [] c' m q f
