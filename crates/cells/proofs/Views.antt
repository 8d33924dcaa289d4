-- A change of the slices is that change of the cells that they hold. Assumes nothing.
use Rattle.std.proofs.Common.{◌≡◌, ℕ, ◌+◌, ◌*◌, ◌<◌, ◌≤◌, Bool, true, false, cond, eqb, List, length, get_or, set, refl, ap, ◌∙◌, arith, length-set, get_or-set_other, get_or-set_same, eqb-true}
use mathlib.Core.Path.{fun_ext}
use borrow.Author.Tests.{eqb-false}
use Rattle.rules.specs.Cells.{Cells}
use Rattle.rules.specs.Answers.{Link, unlinked, as_first, as_second, Change, nothing, store, fill, changed_at, first_linked, second_linked, changed, value_changed}
use Rattle.steps.proofs.Sizes.{size_fours}
use Rattle.cells.specs.Layout.{Shaped, first_at, second_at, hash_in, key_in, value_in, view, filled, words_after, linked, deltas_after}

-- a link is written within S cells
abbrev pub LinkWithin : ℕ → Link → Type 0
LinkWithin S unlinked = Unit
LinkWithin S (as_first i d) = i < S
LinkWithin S (as_second i d) = i < S

-- a change is made within S cells
abbrev pub Within : ℕ → Change → Type 0
Within S nothing = Unit
Within S (store i v) = i < S
Within S (fill i h k v l) = (i < S) × LinkWithin S l

-- one number of each cell, which stands at a place of its own
abbrev column : (ℕ → ℕ) → List ℕ → ℕ → ℕ
column at xs j = get_or xs (at j) 0

abbrev Apart : (ℕ → ℕ) → Type 0
Apart at = (i j : ℕ) → at j ≡ at i → j ≡ i

-- after a store in it
column_set : (at : ℕ → ℕ) → Apart at → (xs : List ℕ) (i v : ℕ) → at i < length xs → column at (set xs (at i) v) ≡ changed_at i v (column at xs)
column_set at apart xs i v l = fun_ext (λ j. go j (eqb j i) refl)
  where
    go : (j : ℕ) (b : Bool) → eqb j i ≡ b → get_or (set xs (at i) v) (at j) 0 ≡ cond b v (get_or xs (at j) 0)
    go j true e = rw (eqb-true j i e) (get_or-set_same xs (at i) v 0 l)
    go j false e = get_or-set_other xs (at i) (at j) v 0 (λ q. eqb-false j i e (apart i j q))

-- after a store beside it
column_kept : (at : ℕ → ℕ) (xs : List ℕ) (a v : ℕ) → ((j : ℕ) → at j ≡ a → ⊥) → column at (set xs a v) ≡ column at xs
column_kept at xs a v n = fun_ext (λ j. get_or-set_other xs a (at j) v 0 (n j))

-- four columns make the cells
columns : (ws ds : List ℕ) (c : Cells) → hash_in ws ≡ c.hash → key_in ws ≡ c.key → column first_at ds ≡ c.first → column second_at ds ≡ c.second → view ws ds ≡ c
columns ws ds c h k d e = λ t. record { hash = h t; key = k t; first = d t; second = e t }

module _ {S : ℕ} {ws ds : List ℕ} (s : Shaped S ws ds) where
  firsts : (l : Link) → LinkWithin S l → column first_at (linked l ds) ≡ first_linked l (column first_at ds)
  firsts unlinked w = refl
  firsts (as_first i d) w = column_set first_at (λ i j q. omega arith) ds i d (omega (arith, s.deltas, size_fours S s.size))
  firsts (as_second i d) w = column_kept first_at ds (second_at i) d (λ j q. omega arith)

  seconds : (l : Link) → LinkWithin S l → column second_at (linked l ds) ≡ second_linked l (column second_at ds)
  seconds unlinked w = refl
  seconds (as_first i d) w = column_kept second_at ds (first_at i) d (λ j q. omega arith)
  seconds (as_second i d) w = column_set second_at (λ i j q. omega arith) ds i d (omega (arith, s.deltas, size_fours S s.size))

  -- the three words of a cell that is filled
  module _ (i h k v : ℕ) (l : i < S) where
    abbrev one : List ℕ
    one = set ws (3 * i) h

    abbrev two : List ℕ
    two = set one (3 * i + 1) k

    hashes : hash_in (filled ws i h k v) ≡ changed_at i h (hash_in ws)
    hashes =
        column_kept (λ j. 3 * j) two (3 * i + 2) v (λ j q. omega arith)
        ∙ column_kept (λ j. 3 * j) one (3 * i + 1) k (λ j q. omega arith)
        ∙ column_set (λ j. 3 * j) (λ i j q. omega arith) ws i h (omega (arith, s.words))

    keys : key_in (filled ws i h k v) ≡ changed_at i k (key_in ws)
    keys =
        column_kept (λ j. 3 * j + 1) two (3 * i + 2) v (λ j q. omega arith)
        ∙ column_set (λ j. 3 * j + 1) (λ i j q. omega arith) one i k (simp length-set (omega (arith, s.words)))
        ∙ ap (changed_at i k) (column_kept (λ j. 3 * j + 1) ws (3 * i) h (λ j q. omega arith))

    values : value_in (filled ws i h k v) ≡ changed_at i v (value_in ws)
    values =
        column_set (λ j. 3 * j + 2) (λ i j q. omega arith) two i v (simp length-set (omega (arith, s.words)))
        ∙ ap (changed_at i v)
        (column_kept (λ j. 3 * j + 2) one (3 * i + 1) k (λ j q. omega arith)
        ∙ column_kept (λ j. 3 * j + 2) ws (3 * i) h (λ j q. omega arith))

  -- the cells after a change of the slices are the cells changed so
  pub view_changed : (c : Change) → Within S c → view (words_after c ws) (deltas_after c ds) ≡ changed c (view ws ds)
  view_changed nothing w = refl
  view_changed (store i v) w =
      columns (set ws (3 * i + 2) v) ds (view ws ds)
      (column_kept (λ j. 3 * j) ws (3 * i + 2) v (λ j q. omega arith))
      (column_kept (λ j. 3 * j + 1) ws (3 * i + 2) v (λ j q. omega arith))
      refl
      refl
  view_changed (fill i h k v l) w =
      columns (filled ws i h k v) (linked l ds) (changed (fill i h k v l) (view ws ds))
      (hashes i h k v w.0)
      (keys i h k v w.0)
      (firsts l w.1)
      (seconds l w.1)

  -- and the values are the values changed so
  pub values_changed : (c : Change) → Within S c → value_in (words_after c ws) ≡ value_changed c (value_in ws)
  values_changed nothing w = refl
  values_changed (store i v) w = column_set (λ j. 3 * j + 2) (λ i j q. omega arith) ws i v (omega (arith, s.words))
  values_changed (fill i h k v l) w = values i h k v w.0

  -- the lengths stay
  pub shape_kept : (c : Change) → Shaped S (words_after c ws) (deltas_after c ds)
  shape_kept nothing = s
  shape_kept (store i v) = record { size = s.size; words = omega (arith, s.words, length-set ws (3 * i + 2) v); deltas = s.deltas }
  shape_kept (fill i h k v l) =
      record {
        size = s.size;
        words = omega (arith, s.words, length-set (set (set ws (3 * i) h) (3 * i + 1) k) (3 * i + 2) v, length-set (set ws (3 * i) h) (3 * i + 1) k, length-set ws (3 * i) h);
        deltas = links l;
      }
    where
      links : (l : Link) → 2 * S ≤ length (linked l ds)
      links unlinked = s.deltas
      links (as_first i d) = omega (arith, s.deltas, length-set ds (first_at i) d)
      links (as_second i d) = omega (arith, s.deltas, length-set ds (second_at i) d)
