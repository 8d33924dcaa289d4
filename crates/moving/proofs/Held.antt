-- Changes of two slices, one after the other, are those changes of what they hold; and the changes of a move. Assumes nothing.
use mathlib.Core.Bool.{Bool, true, false, cond}
use mathlib.Core.List.{List, [], ◌∷◌}
use mathlib.Core.Path.{◌≡◌, refl, ap, ◌∙◌}
use Prim.Native.Nat.{ℕ, zero, suc, ◌+◌, ◌*◌, ◌≤◌}
use native.Mathlib.Omega.{arith}
use lib.Dec.{eqb}
use lib.ListN.{length, set, length-set, length-replicate}
use Rattle.rules.specs.Sizes.{is_size}
use Rattle.rules.specs.Cells.{Counts}
use Rattle.rules.specs.Answers.{Said, found, absent, new, replaced, revived, removed, refused, unlinked, as_first, as_second, Change, nothing, store, fill}
use Rattle.rules.specs.Calls.{insert_stored}
use Rattle.rules.specs.Moves.{Held, held_after, held_after_all, Ended, all, stop, Moved, stop_with, cell_moved, move_cells, totalled, move_all}
use Rattle.steps.proofs.Sizes.{size_least}
use Rattle.cells.specs.Layout.{Shaped, first_at, second_at, fresh_words, fresh_deltas, words_after, deltas_after}
use Rattle.cells.proofs.Clearing.{fresh_length}
use Rattle.cells.proofs.Views.{Within, view_changed, values_changed, shape_kept}
use Rattle.laws.proofs.Within.{stored_within}
use Rattle.moving.specs.Slices.{held_in, clear_held, words_after_all, deltas_after_all}

-- ---- one change

-- the slices after a change hold what they held, changed so
pub held_changed : {T : ℕ} {ws ds : List ℕ} → Shaped T ws ds → (c : Change) → Within T c → held_in (words_after c ws) (deltas_after c ds) ≡ held_after c (held_in ws ds)
held_changed s c w = λ t. record { cells = view_changed s c w t; value = values_changed s c w t }

pub words_kept : (c : Change) (ws : List ℕ) → length (words_after c ws) ≡ length ws
words_kept nothing ws = refl
words_kept (store i v) ws = length-set ws (3 * i + 2) v
words_kept (fill i h k v l) ws =
    length-set (set (set ws (3 * i) h) (3 * i + 1) k) (3 * i + 2) v ∙ length-set (set ws (3 * i) h) (3 * i + 1) k ∙ length-set ws (3 * i) h

pub deltas_kept : (c : Change) (ds : List ℕ) → length (deltas_after c ds) ≡ length ds
deltas_kept nothing ds = refl
deltas_kept (store i v) ds = refl
deltas_kept (fill i h k v unlinked) ds = refl
deltas_kept (fill i h k v (as_first j d)) ds = length-set ds (first_at j) d
deltas_kept (fill i h k v (as_second j d)) ds = length-set ds (second_at j) d

-- slices as long as shaped ones are shaped
pub shaped_as : {T : ℕ} {ws ds ws' ds' : List ℕ} → Shaped T ws ds → length ws' ≡ length ws → length ds' ≡ length ds → Shaped T ws' ds'
shaped_as s a b = record { size = s.size; words = omega (arith, s.words, a); deltas = omega (arith, s.deltas, b) }

-- ---- the changes of a list

-- each is made within T cells
abbrev pub WithinAll : ℕ → List Change → Type 0
WithinAll T [] = Unit
WithinAll T (c ∷ l) = Within T c × WithinAll T l

pub held_changed_all : {T : ℕ} (l : List Change) (ws ds : List ℕ) → Shaped T ws ds → WithinAll T l
    → held_in (words_after_all l ws) (deltas_after_all l ds) ≡ held_after_all l (held_in ws ds)
held_changed_all [] ws ds s w = refl
held_changed_all (c ∷ l) ws ds s w =
    held_changed_all l (words_after c ws) (deltas_after c ds) (shape_kept s c) w.1 ∙ ap (held_after_all l) (held_changed s c w.0)

pub words_kept_all : (l : List Change) (ws : List ℕ) → length (words_after_all l ws) ≡ length ws
words_kept_all [] ws = refl
words_kept_all (c ∷ l) ws = words_kept_all l (words_after c ws) ∙ words_kept c ws

pub deltas_kept_all : (l : List Change) (ds : List ℕ) → length (deltas_after_all l ds) ≡ length ds
deltas_kept_all [] ds = refl
deltas_kept_all (c ∷ l) ds = deltas_kept_all l (deltas_after c ds) ∙ deltas_kept c ds

-- ---- the changes of a move

said_within : (T : ℕ) (s : Said) (c : Change) (rest : Moved) → Within T c → WithinAll T rest.fills → WithinAll T (cell_moved s c rest).fills
said_within T new c rest w r = (w, r)
said_within T (refused n l) c rest w r = go (eqb n 4)
  where
    go : (b : Bool) → WithinAll T (cond {A = Moved} b (stop_with 4 l) (stop_with 5 [])).fills
    go true = tt
    go false = tt
said_within T (found v) c rest w r = tt
said_within T absent c rest w r = tt
said_within T (replaced v) c rest w r = tt
said_within T revived c rest w r = tt
said_within T (removed v) c rest w r = tt

cell_within : (T : ℕ) (b e : Bool) (behind goes : Moved) → WithinAll T behind.fills → WithinAll T goes.fills
    → WithinAll T (cond b behind (cond e (stop_with 5 []) goes)).fills
cell_within T true e behind goes x y = x
cell_within T false true behind goes x y = tt
cell_within T false false behind goes x y = y

module _ (null : ℕ) (from : Held) (T : ℕ) (some : 1 ≤ T) where
  -- cells that go over change cells of the destination's table alone
  pub cells_within : (left i : ℕ) (to : Held) (c : Counts) → WithinAll T (move_cells null from T left i to c).fills
  unfolding move_cells
  cells_within zero i to c = tt
  cells_within (suc left) i to c =
      let o = insert_stored T null to.cells to.value c (from.cells.hash i) (from.cells.key i) (from.value i) in
      let rest = move_cells null from T left (i + 1) (held_after o.change to) o.counts in
      cell_within T (eqb (from.value i) null) (eqb (from.cells.hash i) 0) (move_cells null from T left (i + 1) to c) (cell_moved o.said o.change rest)
      (cells_within left (i + 1) to c)
      (said_within T o.said o.change rest (stored_within T null to.cells to.value c (from.cells.hash i) (from.cells.key i) some (from.value i))
      (cells_within left (i + 1) (held_after o.change to) o.counts))

  totalled_within : (live : ℕ) (m : Moved) (e : Ended) → WithinAll T m.fills → WithinAll T (totalled live m e).fills
  totalled_within live m (stop n l) w = w
  totalled_within live m (all c) w = go (eqb c.live live)
    where
      go : (b : Bool) → WithinAll T (cond {A = Moved} b m (stop_with 5 [])).fills
      go true = w
      go false = tt

  -- so a whole move
  pub move_within : (S : ℕ) (c : Counts) (clear : Held) → WithinAll T (move_all null S from c T clear).fills
  unfolding move_all
  move_within S c clear =
      let m = move_cells null from T S 0 clear (record { live = 0 }) in
      totalled_within c.live m m.ended (cells_within S 0 clear (record { live = 0 }))

-- ---- clear slices

-- a table of T cells has room in the front of C cells
pub fresh_shaped : (T C : ℕ) → is_size T ≡ true → T ≤ C → Shaped T (fresh_words C) (fresh_deltas C)
fresh_shaped T C s l =
    record { size = s; words = omega (arith, fresh_length C); deltas = omega (arith, length-replicate {A = ℕ} (2 * C) 0) }

pub clear_lengths : (C : ℕ) {ws ds : List ℕ} {m n : ℕ} → ws ≡ fresh_words C → ds ≡ fresh_deltas C → m ≡ length ws → n ≡ length ds → (m ≡ 3 * C) × (n ≡ 2 * C)
clear_lengths C ew ed a b = (a ∙ ap length ew ∙ fresh_length C, b ∙ ap length ed ∙ length-replicate {A = ℕ} (2 * C) 0)

-- after a move into C clear cells the slices hold what the move's changes make of them
pub moved_held : (null S : ℕ) (from : Held) (c : Counts) (T C : ℕ) → is_size T ≡ true → T ≤ C
    → held_in (words_after_all (move_all null S from c T (clear_held C)).fills (fresh_words C)) (deltas_after_all (move_all null S from c T (clear_held C)).fills (fresh_deltas C))
    ≡ held_after_all (move_all null S from c T (clear_held C)).fills (clear_held C)
moved_held null S from c T C s l =
    let some = size_least T s in
    held_changed_all (move_all null S from c T (clear_held C)).fills (fresh_words C) (fresh_deltas C) (fresh_shaped T C s l) (move_within null from T (omega arith) S c (clear_held C))
