-- What clearing both halves makes: halves and a record that pass check 1, and a fresh table in use. Assumes nothing.
use mathlib.Core.Bool.{true, ◌&&◌}
use mathlib.Core.List.{List, ◌∷◌, ◌++◌}
use mathlib.Core.Path.{◌≡◌, refl, sym, ap, ◌∙◌}
use Prim.Native.Nat.{ℕ, zero, suc, ◌+◌, ◌-◌, ◌*◌, ◌/◌, ◌≤◌}
use native.Mathlib.Nat.{zero-add, suc-add}
use native.Mathlib.Omega.{arith}
use borrow.Author.Tests.{eq-eqb, le-leb}
use lib.ListN.{take, replicate, length-replicate, replicate-append-replicate}
use lib.Seq.{take_at}
use Rattle.hashers.specs.declared.Hasher.{Hasher}
use Rattle.rules.specs.Sizes.{is_size}
use Rattle.cells.specs.Layout.{null, size_in, fresh_words, fresh_deltas}
use Rattle.cells.proofs.Clearing.{fresh_length}
use Rattle.parts.specs.Halves.{are_pair, are_halves, size_fits, record_fits, used_words, used_deltas}
use Rattle.halves.specs.Answers.{fresh_growing}
use Rattle.parts.proofs.Checks.{size_holds}
use Rattle.halves.proofs.AsTable.{words_are, deltas_are}

-- so many cells, then so many more
fresh_more : (m n : ℕ) → fresh_words (m + n) ≡ fresh_words m ++ fresh_words n
unfolding fresh_words
fresh_more zero n = ap fresh_words (zero-add n)
fresh_more (suc m) n = ap fresh_words (suc-add m n) ∙ ap (λ (l : List ℕ). 0 ∷ 0 ∷ null ∷ l) (fresh_more m n)

-- the front of cleared slices is fresh
pub fresh_words_front : (S C : ℕ) → S ≤ C → take (3 * S) (fresh_words C) ≡ fresh_words S
fresh_words_front S C l =
    let e : C ≡ S + (C - S) = omega arith in
    ap (λ (n : ℕ). take (3 * S) (fresh_words n)) e ∙ ap (take (3 * S)) (fresh_more S (C - S)) ∙ take_at (fresh_words S) (fresh_words (C - S)) (3 * S) (fresh_length S)

pub fresh_deltas_front : (S C : ℕ) → S ≤ C → take (2 * S) (fresh_deltas C) ≡ fresh_deltas S
fresh_deltas_front S C l =
    let e : 2 * C ≡ 2 * S + 2 * (C - S) = omega arith in
    ap (λ (n : ℕ). take (2 * S) (replicate {A = ℕ} n 0)) e
    ∙ ap (take (2 * S)) (sym (replicate-append-replicate {A = ℕ} (2 * S) (2 * (C - S)) 0))
    ∙ take_at (replicate {A = ℕ} (2 * S) 0) (replicate {A = ℕ} (2 * (C - S)) 0) (2 * S) (length-replicate {A = ℕ} (2 * S) 0)

module _ (C size : ℕ) (hasher : Hasher) (c : is_size C ≡ true) (f : size_fits C size ≡ true) where
  cells_are : size_in (fresh_deltas C) ≡ C
  cells_are = ap (λ (n : ℕ). n / 2) (length-replicate {A = ℕ} (2 * C) 0) ∙ omega arith

  -- the cleared halves and the record made pass check 1
  pub cleared_passes : are_halves (fresh_words C) (fresh_deltas C) (fresh_words C) (fresh_deltas C) && record_fits (size_in (fresh_deltas C)) (fresh_growing size hasher) ≡ true
  unfolding are_halves are_pair record_fits
  cleared_passes =
      rw (cells_are, c, f, fresh_length C, length-replicate {A = ℕ} (2 * C) 0, eq-eqb (3 * C) (3 * C) refl, eq-eqb (2 * C) (2 * C) refl) (le-leb 0 size (omega arith))

  -- and the parts are a fresh table of the size asked for
  pub cleared_words : used_words (fresh_words C) (fresh_words C) (fresh_growing size hasher) ≡ fresh_words size
  cleared_words =
      words_are (fresh_words C) (fresh_deltas C) (fresh_words C) (fresh_deltas C) (fresh_growing size hasher) cleared_passes
      ∙ fresh_words_front size C (size_holds C size f).1

  pub cleared_deltas : used_deltas (fresh_deltas C) (fresh_deltas C) (fresh_growing size hasher) ≡ fresh_deltas size
  cleared_deltas =
      deltas_are (fresh_words C) (fresh_deltas C) (fresh_words C) (fresh_deltas C) (fresh_growing size hasher) cleared_passes
      ∙ fresh_deltas_front size C (size_holds C size f).1
