-- The bucket that is read out holds the four cells of the layout. Assumes nothing.
use mathlib.Core.List.{List}
use mathlib.Core.Path.{◌≡◌, ◌∙◌}
use Prim.Native.Nat.{ℕ, ◌+◌, ◌*◌, ◌<◌}
use native.Mathlib.Omega.{arith}
use lib.ListN.{get_or}
use Rattle.cells.specs.Layout.{first_at, second_at, value_in, view}
use Rattle.buckets.specs.Buckets.{cell_at, bucket_at, delta_in, cell_in}
use Rattle.buckets.specs.declared.Bucket.{Bucket}
use Rattle.buckets.proofs.Lists.{get_d_listed}

-- cell j of a bucket, and its deltas j and j + 4, are cell i of the table and its first and second delta
pub record IsCell (ws ds : List ℕ) (i : ℕ) (k : Bucket) (j : ℕ) : Type 0 where
  pub hash : (cell_in k j).hash ≡ (view ws ds).hash i
  pub key : (cell_in k j).key ≡ (view ws ds).key i
  pub value : (cell_in k j).value ≡ value_in ws i
  pub first : delta_in k j ≡ (view ws ds).first i
  pub second : delta_in k (j + 4) ≡ (view ws ds).second i

module _ (ws ds : List ℕ) (b j : ℕ) (h : j < 4) where
  pub bucket_cell : cell_in (bucket_at ws ds b) j ≡ cell_at ws (4 * b + j)
  unfolding bucket_at
  bucket_cell = get_d_listed 4 (λ i. cell_at ws (4 * b + i)) j _ h

  pub bucket_first : delta_in (bucket_at ws ds b) j ≡ get_or ds (first_at (4 * b + j)) 0
  unfolding bucket_at
  bucket_first =
      let e : first_at (4 * b + j) ≡ 8 * b + j = omega arith in
      get_d_listed 8 (λ i. get_or ds (8 * b + i) 0) j 0 (omega arith) ∙ rw e

  pub bucket_second : delta_in (bucket_at ws ds b) (j + 4) ≡ get_or ds (second_at (4 * b + j)) 0
  unfolding bucket_at
  bucket_second =
      let e : second_at (4 * b + j) ≡ 8 * b + (j + 4) = omega arith in
      get_d_listed 8 (λ i. get_or ds (8 * b + i) 0) (j + 4) 0 (omega arith) ∙ rw e

  pub bucket_is_four_cells : IsCell ws ds (4 * b + j) (bucket_at ws ds b) j
  bucket_is_four_cells =
      record { hash = rw bucket_cell; key = rw bucket_cell; value = rw bucket_cell; first = bucket_first; second = bucket_second }
