-- From buckets to flat slices and back, and the other way round, nothing is lost. Assumes nothing.
use Rattle.std.proofs.Common.{◌≡◌, ℕ, zero, suc, ◌+◌, ◌*◌, ◌/◌, ◌%◌, ◌<◌, true, List, length, get_or, refl, ap, ◌∙◌, mod-lt, arith, ext_get_or}
use Rattle.steps.proofs.Sizes.{size_fours}
use Rattle.cells.specs.Layout.{size_in, is_shaped}
use Rattle.cells.proofs.Shapes.{exact_lengths, shaped}
use Rattle.buckets.specs.Buckets.{listed, cell_at, bucket_at, delta_in, cell_in}
use Rattle.buckets.specs.declared.Cell.{Cell}
use Rattle.buckets.specs.declared.Bucket.{Bucket}
use Rattle.buckets.proofs.Lists.{get_d_listed, listed_same, spelt}
use Rattle.buckets.proofs.Putting.{Whole}
use Rattle.bucketfind.specs.Slice.{no_bucket, bucket_in, words_in, flat_words, flat_deltas, buckets_of}
use Rattle.bucketfind.proofs.Flat.{words_length, deltas_length, word_at, delta_at, hash_of_lem, key_of, value_of, twelve}

-- ---- buckets, flat, and back

module _ (bs : List Bucket) where
  flat_cell : (b j : ℕ) → j < 4 → cell_at (flat_words bs) (4 * b + j) ≡ cell_in (bucket_in bs b) j
  flat_cell b j h =
      let p : 3 * (4 * b + j) ≡ 12 * b + 3 * j = omega arith in
      let q : 3 * (4 * b + j) + 1 ≡ 12 * b + (3 * j + 1) = omega arith in
      let r : 3 * (4 * b + j) + 2 ≡ 12 * b + (3 * j + 2) = omega arith in
      let x = ap (λ (n : ℕ). get_or (flat_words bs) n 0) p ∙ word_at bs b (3 * j) (omega arith) ∙ hash_of_lem (bucket_in bs b) j h in
      let y = ap (λ (n : ℕ). get_or (flat_words bs) n 0) q ∙ word_at bs b (3 * j + 1) (omega arith) ∙ key_of (bucket_in bs b) j h in
      let z = ap (λ (n : ℕ). get_or (flat_words bs) n 0) r ∙ word_at bs b (3 * j + 2) (omega arith) ∙ value_of (bucket_in bs b) j h in
      λ t. record { hash = x t; key = y t; value = z t }

  -- the bucket that is taken out of the flat slices is the one that was there
  pub flat_bucket : (b : ℕ) → Whole (bucket_in bs b) → bucket_at (flat_words bs) (flat_deltas bs) b ≡ bucket_in bs b
  unfolding bucket_at
  flat_bucket b w =
      let d = listed_same 8 (λ j. get_or (flat_deltas bs) (8 * b + j) 0) (delta_in (bucket_in bs b)) (λ j h. delta_at bs b j h) ∙ (rw w.deltas at (spelt (bucket_in bs b).deltas 0)) in
      let c = listed_same 4 (λ j. cell_at (flat_words bs) (4 * b + j)) (cell_in (bucket_in bs b)) (λ j h. flat_cell b j h)
      ∙ (rw w.cells at (spelt (bucket_in bs b).cells (record { hash = 0; key = 0; value = 0 }))) in
      λ t. record { deltas = d t; cells = c t }

  -- every bucket of the language has eight deltas and four cells; then flat and back is the slice itself
  pub flat_and_back : ((b : ℕ) → b < length bs → Whole (bucket_in bs b)) → buckets_of (flat_words bs) (flat_deltas bs) ≡ bs
  unfolding buckets_of
  flat_and_back whole =
      let n : size_in (flat_deltas bs) / 4 ≡ length bs = omega (arith, deltas_length bs) in
      ap (λ (m : ℕ). listed m (bucket_at (flat_words bs) (flat_deltas bs))) n
      ∙ listed_same (length bs) (bucket_at (flat_words bs) (flat_deltas bs)) (bucket_in bs) (λ b h. flat_bucket b (whole b h))
      ∙ spelt bs no_bucket

-- ---- flat slices, buckets, and back

length_listed : {A : Type 0} (n : ℕ) (f : ℕ → A) → length (listed n f) ≡ n
length_listed zero f = refl
length_listed (suc n) f = ap suc (length_listed n (λ i. f (suc i)))

module _ (ws ds : List ℕ) (b : ℕ) where
  taken_word : (r : ℕ) → r < 12 → get_or (words_in (bucket_at ws ds b)) r 0 ≡ get_or ws (12 * b + r) 0
  unfolding bucket_at
  taken_word = twelve (λ r. get_or (words_in (bucket_at ws ds b)) r 0 ≡ get_or ws (12 * b + r) 0) (λ j h.
      let c : cell_in (bucket_at ws ds b) j ≡ cell_at ws (4 * b + j) = get_d_listed 4 (λ i. cell_at ws (4 * b + i)) j _ h in
      let p : 3 * (4 * b + j) ≡ 12 * b + 3 * j = omega arith in
      let q : 3 * (4 * b + j) + 1 ≡ 12 * b + (3 * j + 1) = omega arith in
      let r : 3 * (4 * b + j) + 2 ≡ 12 * b + (3 * j + 2) = omega arith in (
        hash_of_lem (bucket_at ws ds b) j h ∙ ap (λ (x : Cell). x.hash) c ∙ ap (λ (n : ℕ). get_or ws n 0) p,
        key_of (bucket_at ws ds b) j h ∙ ap (λ (x : Cell). x.key) c ∙ ap (λ (n : ℕ). get_or ws n 0) q,
        value_of (bucket_at ws ds b) j h ∙ ap (λ (x : Cell). x.value) c ∙ ap (λ (n : ℕ). get_or ws n 0) r,
      ))

  taken_delta : (r : ℕ) → r < 8 → delta_in (bucket_at ws ds b) r ≡ get_or ds (8 * b + r) 0
  unfolding bucket_at
  taken_delta r h = get_d_listed 8 (λ j. get_or ds (8 * b + j) 0) r 0 h

module _ (ws ds : List ℕ) (s : is_shaped ws ds ≡ true) where
  -- S/4 buckets, and the lengths that they give
  count : length (buckets_of ws ds) ≡ size_in ds / 4
  unfolding buckets_of
  count = length_listed (size_in ds / 4) (bucket_at ws ds)

  bucket_of_lem : (b : ℕ) → b < size_in ds / 4 → bucket_in (buckets_of ws ds) b ≡ bucket_at ws ds b
  unfolding buckets_of
  bucket_of_lem b h = get_d_listed (size_in ds / 4) (bucket_at ws ds) b _ h

  fours : size_in ds % 4 ≡ 0
  fours = size_fours (size_in ds) (shaped ws ds s).size

  words_all : length (flat_words (buckets_of ws ds)) ≡ length ws
  words_all = omega (arith, words_length (buckets_of ws ds), count, (exact_lengths ws ds s).0, fours)

  deltas_all : length (flat_deltas (buckets_of ws ds)) ≡ length ds
  deltas_all = omega (arith, deltas_length (buckets_of ws ds), count, (exact_lengths ws ds s).1, fours)

  words_back : (i : ℕ) → i < length (flat_words (buckets_of ws ds)) → get_or (flat_words (buckets_of ws ds)) i 0 ≡ get_or ws i 0
  words_back i h =
      let e : i ≡ 12 * (i / 12) + i % 12 = omega arith in
      let m : i % 12 < 12 = mod-lt i (omega arith) in
      let l : i / 12 < size_in ds / 4 = omega (arith, words_length (buckets_of ws ds), count) in
      let a = word_at (buckets_of ws ds) (i / 12) (i % 12) m ∙ ap (λ (k : Bucket). get_or (words_in k) (i % 12) 0) (bucket_of_lem (i / 12) l) ∙ taken_word ws ds (i / 12) (i % 12) m in
      rw (← e) at a

  deltas_back : (i : ℕ) → i < length (flat_deltas (buckets_of ws ds)) → get_or (flat_deltas (buckets_of ws ds)) i 0 ≡ get_or ds i 0
  deltas_back i h =
      let e : i ≡ 8 * (i / 8) + i % 8 = omega arith in
      let m : i % 8 < 8 = mod-lt i (omega arith) in
      let l : i / 8 < size_in ds / 4 = omega (arith, deltas_length (buckets_of ws ds), count) in
      let a = delta_at (buckets_of ws ds) (i / 8) (i % 8) m ∙ ap (λ (k : Bucket). delta_in k (i % 8)) (bucket_of_lem (i / 8) l) ∙ taken_delta ws ds (i / 8) (i % 8) m in
      rw (← e) at a

  -- of a table of an allowed shape
  pub buckets_and_back : (flat_words (buckets_of ws ds) ≡ ws) × (flat_deltas (buckets_of ws ds) ≡ ds)
  buckets_and_back = (ext_get_or 0 _ _ words_all words_back, ext_get_or 0 _ _ deltas_all deltas_back)
