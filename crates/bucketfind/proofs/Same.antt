-- The lookup over a slice of buckets is find on the two flat slices that hold the same buckets. Assumes nothing.
use Rattle.std.proofs.Common.{◌≡◌, ℕ, true, List, sym, ap, ◌∙◌}
use Rattle.rules.specs.Cells.{Lent}
use Rattle.rules.specs.Calls.{find}
use Rattle.cells.specs.Layout.{is_shaped, lent}
use Rattle.cells.specs.declared.Table.{Table}
use Rattle.buckets.specs.declared.Bucket.{Bucket}
use Rattle.bucketfind.specs.Slice.{buckets_lent, flat_words, flat_deltas, buckets_of}
use Rattle.bucketfind.proofs.Flat.{flat_lent}
use Rattle.bucketfind.proofs.Inverse.{buckets_and_back}

module _ (bs : List Bucket) (t : Table) (k : ℕ) where
  -- the rule gives the same on both, for any buckets, sound or not, refusals and counts included
  pub find_same : find (buckets_lent bs t) k ≡ find (lent (flat_words bs) (flat_deltas bs) t) k
  find_same = ap (λ (l : Lent). find l k) (sym (flat_lent bs t))

-- and on the buckets of two flat slices of an allowed shape it answers as find on these slices
pub find_of_flat : (ws ds : List ℕ) (t : Table) (k : ℕ) → is_shaped ws ds ≡ true → find (buckets_lent (buckets_of ws ds) t) k ≡ find (lent ws ds t) k
find_of_flat ws ds t k s =
    let e = buckets_and_back ws ds s in
    find_same (buckets_of ws ds) t k ∙ ap (λ (vs : List ℕ). find (lent vs (flat_deltas (buckets_of ws ds)) t) k) e.0 ∙ ap (λ (es : List ℕ). find (lent ws es t) k) e.1
