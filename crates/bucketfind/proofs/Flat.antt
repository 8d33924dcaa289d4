-- A slice of buckets and two flat slices: read out bucket by bucket they hold the same table, and each way back is inverse. Assumes nothing.
use Rattle.std.proofs.Common.{◌≡◌, ℕ, zero, suc, ◌+◌, ◌*◌, ◌/◌, ◌%◌, ◌<◌, Bool, true, false, ◌&&◌, List, [], ◌∷◌, length, get_or, sym, refl, ap, ◌∙◌, mod-lt, mul-zero, zero-add, mul-suc, arith, length-append, get_or-append-add, eq-eqb}
use mathlib.Core.Path.{fun_ext}
use lib.ListN.{get_or-append}
use Rattle.rules.specs.Sizes.{is_size}
use Rattle.cells.specs.Layout.{size_in, is_shaped, params_of, counts_of, hash_in, key_in, value_in, first_at, second_at, lent}
use Rattle.cells.specs.declared.Table.{Table}
use Rattle.buckets.specs.Buckets.{delta_in, cell_in}
use Rattle.buckets.specs.declared.Bucket.{Bucket}
use Rattle.buckets.proofs.Lists.{get_d_listed}
use Rattle.bucketfind.specs.Slice.{no_bucket, bucket_in, size_of, cells_in, values_in, buckets_lent, words_in, deltas_in, joined, flat_words, flat_deltas}

-- ---- lists read out bucket by bucket, m numbers from each

module _ (f : Bucket → List ℕ) (m : ℕ) (each : (k : Bucket) → length (f k) ≡ m) where
  joined_length : (bs : List Bucket) → length (joined f bs) ≡ m * length bs
  unfolding joined
  joined_length [] = sym (mul-zero m)
  joined_length (k ∷ bs) = length-append (f k) (joined f bs) ∙ rw (each k, joined_length bs, mul-suc m (length bs)) (omega arith)

  -- number j of bucket b; past the last bucket there are zeros
  module _ (none : (j : ℕ) → j < m → get_or (f no_bucket) j 0 ≡ 0) where
    joined_at : (bs : List Bucket) (b j : ℕ) → j < m → get_or (joined f bs) (m * b + j) 0 ≡ get_or (f (bucket_in bs b)) j 0
    unfolding joined
    joined_at [] b j h = sym (none j h)
    joined_at (k ∷ bs) zero j h = rw (mul-zero m, zero-add j) (get_or-append (f k) (joined f bs) 0 j (rw (each k) h))
    joined_at (k ∷ bs) (suc b) j h =
        let e : m * suc b + j ≡ length (f k) + (m * b + j) = rw (each k, mul-suc m b) (omega arith) in
        ap (λ (n : ℕ). get_or (joined f (k ∷ bs)) n 0) e ∙ get_or-append-add (f k) (joined f bs) (m * b + j) 0 ∙ joined_at bs b j h

-- ---- the numbers of one bucket

four : (P : ℕ → Type 0) → P 0 → P 1 → P 2 → P 3 → (j : ℕ) → j < 4 → P j
four P a b c d zero h = a
four P a b c d (suc zero) h = b
four P a b c d (suc (suc zero)) h = c
four P a b c d (suc (suc (suc zero))) h = d
four P a b c d (suc (suc (suc (suc j)))) h = absurd (omega arith)

module _ (k : Bucket) (j : ℕ) (h : j < 4) where
  pub hash_of_lem : get_or (words_in k) (3 * j) 0 ≡ (cell_in k j).hash
  hash_of_lem = four (λ j. get_or (words_in k) (3 * j) 0 ≡ (cell_in k j).hash) refl refl refl refl j h

  pub key_of : get_or (words_in k) (3 * j + 1) 0 ≡ (cell_in k j).key
  key_of = four (λ j. get_or (words_in k) (3 * j + 1) 0 ≡ (cell_in k j).key) refl refl refl refl j h

  pub value_of : get_or (words_in k) (3 * j + 2) 0 ≡ (cell_in k j).value
  value_of = four (λ j. get_or (words_in k) (3 * j + 2) 0 ≡ (cell_in k j).value) refl refl refl refl j h

pub twelve : (P : ℕ → Type 0) → ((j : ℕ) → j < 4 → P (3 * j) × P (3 * j + 1) × P (3 * j + 2)) → (r : ℕ) → r < 12 → P r
twelve P each r h =
    let t = each (r / 3) (omega arith) in
    go (r % 3) refl t
  where
    go : (s : ℕ) → r % 3 ≡ s → P (3 * (r / 3)) × P (3 * (r / 3) + 1) × P (3 * (r / 3) + 2) → P r
    go zero e t = let q : 3 * (r / 3) ≡ r = omega arith in rw q at t.0
    go (suc zero) e t = let q : 3 * (r / 3) + 1 ≡ r = omega arith in rw q at t.1
    go (suc (suc zero)) e t = let q : 3 * (r / 3) + 2 ≡ r = omega arith in rw q at t.2
    go (suc (suc (suc s))) e t = absurd (omega (arith, mod-lt r {m = 3} (omega arith)))

none_words : (r : ℕ) → r < 12 → get_or (words_in no_bucket) r 0 ≡ 0
none_words = twelve (λ r. get_or (words_in no_bucket) r 0 ≡ 0)
    (λ j h. (hash_of_lem no_bucket j h, key_of no_bucket j h, value_of no_bucket j h))

none_deltas : (j : ℕ) → j < 8 → get_or (deltas_in no_bucket) j 0 ≡ 0
none_deltas j h = get_d_listed 8 (delta_in no_bucket) j 0 h

-- ---- of a slice of buckets

module _ (bs : List Bucket) where
  pub words_length : length (flat_words bs) ≡ 12 * length bs
  words_length = joined_length words_in 12 (λ k. refl) bs

  pub deltas_length : length (flat_deltas bs) ≡ 8 * length bs
  deltas_length = joined_length deltas_in 8 (λ k. refl) bs

  pub word_at : (b r : ℕ) → r < 12 → get_or (flat_words bs) (12 * b + r) 0 ≡ get_or (words_in (bucket_in bs b)) r 0
  word_at = joined_at words_in 12 (λ k. refl) none_words bs

  pub delta_at : (b j : ℕ) → j < 8 → get_or (flat_deltas bs) (8 * b + j) 0 ≡ delta_in (bucket_in bs b) j
  delta_at b j h = joined_at deltas_in 8 (λ k. refl) none_deltas bs b j h ∙ get_d_listed 8 (delta_in (bucket_in bs b)) j 0 h

  sizes : size_in (flat_deltas bs) ≡ size_of bs
  sizes = omega (arith, deltas_length)

  -- cell by cell
  module _ (i : ℕ) where
    in_four : i % 4 < 4
    in_four = mod-lt i (omega arith)

    flat_hash : hash_in (flat_words bs) i ≡ (cells_in bs).hash i
    flat_hash =
        let e : 3 * i ≡ 12 * (i / 4) + 3 * (i % 4) = omega arith in
        rw e (word_at (i / 4) (3 * (i % 4)) (omega (arith, in_four)) ∙ hash_of_lem (bucket_in bs (i / 4)) (i % 4) in_four)

    flat_key : key_in (flat_words bs) i ≡ (cells_in bs).key i
    flat_key =
        let e : 3 * i + 1 ≡ 12 * (i / 4) + (3 * (i % 4) + 1) = omega arith in
        rw e (word_at (i / 4) (3 * (i % 4) + 1) (omega (arith, in_four)) ∙ key_of (bucket_in bs (i / 4)) (i % 4) in_four)

    flat_value : value_in (flat_words bs) i ≡ values_in bs i
    flat_value =
        let e : 3 * i + 2 ≡ 12 * (i / 4) + (3 * (i % 4) + 2) = omega arith in
        rw e (word_at (i / 4) (3 * (i % 4) + 2) (omega (arith, in_four)) ∙ value_of (bucket_in bs (i / 4)) (i % 4) in_four)

    flat_first : get_or (flat_deltas bs) (first_at i) 0 ≡ (cells_in bs).first i
    flat_first = delta_at (i / 4) (i % 4) (omega (arith, in_four))

    flat_second : get_or (flat_deltas bs) (second_at i) 0 ≡ (cells_in bs).second i
    flat_second =
        let e : second_at i ≡ 8 * (i / 4) + (i % 4 + 4) = omega arith in
        rw e (delta_at (i / 4) (i % 4 + 4) (omega (arith, in_four)))

  alone : (a : Bool) → (a && true) && true ≡ a
  alone true = refl
  alone false = refl

  flat_shaped : is_shaped (flat_words bs) (flat_deltas bs) ≡ is_size (size_of bs)
  unfolding is_shaped
  flat_shaped =
      rw (sizes, eq-eqb (length (flat_words bs)) (3 * size_of bs) (omega (arith, words_length)), eq-eqb (length (flat_deltas bs)) (2 * size_of bs) (omega (arith, deltas_length)))
      (alone (is_size (size_of bs)))

  -- a call that is lent the two flat slices is lent what a call that is lent the buckets is lent
  pub flat_lent : (t : Table) → lent (flat_words bs) (flat_deltas bs) t ≡ buckets_lent bs t
  flat_lent t = λ s. record {
    shaped = flat_shaped s;
    params = params_of (sizes s) t.hasher;
    cells = record { hash = fun_ext flat_hash s; key = fun_ext flat_key s; first = fun_ext flat_first s; second = fun_ext flat_second s };
    value = fun_ext flat_value s;
    counts = counts_of t.live;
  }
