-- What the code's tests and stores come to, in the terms of the contracts. Assumes nothing.
use mathlib.Core.Bool.{true}
use mathlib.Core.List.{List, [], ◌∷◌, ◌++◌}
use mathlib.Core.Path.{◌≡◌, refl, ◌∙◌}
use Prim.Native.Nat.{ℕ, suc, ◌+◌, ◌*◌, ◌/◌, ◌<◌}
use native.Mathlib.Numerals.{add-one, add-two}
use native.Mathlib.Omega.{arith}
use borrow.Author.Tests.{ltb-true}
use lib.ListN.{length, take, drop}
use Rattle.std.proofs.Common.{append_assoc}
use Rattle.std.proofs.lemmas.Bool.{and_parts}
use Rattle.std.proofs.lemmas.List.{drop-drop}
use lib.Seq.{sets, sets-eq}
use Rattle.cells.specs.Layout.{size_in}
use Rattle.cells.proofs.Shapes.{shaped}
use Rattle.buckets.specs.Buckets.{listed, fits_bucket, Inside, words_of, filled_by, words_with, deltas_with, delta_in, cell_in}
use Rattle.buckets.proofs.Lists.{spelt}
use Rattle.buckets.specs.declared.Bucket.{Bucket}
use Rattle.cells.specs.declared.Cell.{Cell}

-- ---- the test

pub inside : (ws ds : List ℕ) (b : ℕ) → fits_bucket ws ds b ≡ true → Inside (length ws) (length ds) b
unfolding fits_bucket
inside ws ds b e =
    let t = and_parts _ _ e in
    let s = shaped ws ds t.0 in
    let l : b < size_in ds / 4 = ltb-true _ _ t.1 in
    record { words = omega arith; deltas = omega arith }

-- ---- the stores

-- a bucket's deltas, stored one after the other from delta 8b on
pub deltas_stored : (ds : List ℕ) (b : ℕ) (k : Bucket) → 8 * b + 7 < length ds → sets ds (8 * b) (listed 8 (delta_in k)) ≡ deltas_with ds b k
unfolding deltas_with
deltas_stored ds b k h = sets-eq (listed 8 (delta_in k)) ds (8 * b) (omega arith)

pub all_deltas : (k : Bucket) → length k.deltas ≡ 8 → listed 8 (delta_in k) ≡ k.deltas
all_deltas k own = rw own at (spelt k.deltas 0)

-- and copied as they stand
pub deltas_copied : (ds : List ℕ) (b : ℕ) (k : Bucket) (v : List ℕ) → v ≡ k.deltas → length v ≡ 8 → take (8 * b) ds ++ (v ++ drop 8 (drop (8 * b) ds)) ≡ deltas_with ds b k
unfolding deltas_with
deltas_copied ds b k v e own = rw (all_deltas k (rw e at own), drop-drop 8 (8 * b) ds, append_assoc, e)

-- cells, stored one after the other from cell i on
abbrev pub fills : List ℕ → ℕ → List Cell → List ℕ
fills ws i [] = ws
fills ws i (c ∷ cs) = fills (filled_by ws i c) (suc i) cs

-- the same by their words
fills_sets : (cs : List Cell) (ws : List ℕ) (i : ℕ) → fills ws i cs ≡ sets ws (3 * i) (words_of cs)
fills_sets [] ws i = refl
fills_sets (c ∷ cs) ws i =
    let e : 3 * suc i ≡ suc (suc (suc (3 * i))) = omega arith in
    fills_sets cs (filled_by ws i c) (suc i) ∙ rw (e, add-one (3 * i), add-two (3 * i))

pub cells_stored : (ws : List ℕ) (b : ℕ) (k : Bucket) → 12 * b + 11 < length ws → fills ws (4 * b) (listed 4 (cell_in k)) ≡ words_with ws b k
unfolding words_with
cells_stored ws b k h =
    let at : 3 * (4 * b) ≡ 12 * b = omega arith in
    fills_sets (listed 4 (cell_in k)) ws (4 * b) ∙ rw at (sets-eq (words_of (listed 4 (cell_in k))) ws (12 * b) (omega arith))
