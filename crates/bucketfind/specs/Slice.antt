-- A slice of buckets as a table: where its cells stand, what a call that is lent it is lent, and the same buckets as two flat slices.
use Rattle.std.specs.Prelude.{ℕ, ◌+◌, ◌*◌, ◌/◌, ◌%◌, Bool, cond, ◌&&◌, List, [], ◌∷◌, ◌++◌, length, ◌==◌, slice_index_or}
use Rattle.rules.specs.Sizes.{is_size}
use Rattle.rules.specs.Cells.{Cells, Lent}
use Rattle.rules.specs.Answers.{found, absent, Answer}
use Rattle.cells.specs.Layout.{null, size_in, params_of, counts_of}
use Rattle.cells.specs.declared.Table.{Table}
use Rattle.buckets.specs.Buckets.{listed, bucket_at, delta_in, cell_in, words_of}
use Rattle.buckets.specs.declared.Bucket.{Bucket}

-- stands for a bucket past the last, which no call reads
abbrev pub no_bucket : Bucket
no_bucket = record { deltas = []; cells = [] }

-- bucket b
abbrev pub bucket_in : List Bucket → ℕ → Bucket
bucket_in bs b = slice_index_or bs b no_bucket

-- S cells stand in S/4 buckets
abbrev pub size_of : List Bucket → ℕ
size_of bs = 4 * length bs

-- cell i of the table is cell i % 4 of bucket i / 4, with its first delta at i % 4 and its second 4 later
abbrev pub cells_in : List Bucket → Cells
cells_in bs =
    record {
      hash = λ i. (cell_in (bucket_in bs (i / 4)) (i % 4)).hash;
      key = λ i. (cell_in (bucket_in bs (i / 4)) (i % 4)).key;
      first = λ i. delta_in (bucket_in bs (i / 4)) (i % 4);
      second = λ i. delta_in (bucket_in bs (i / 4)) (i % 4 + 4);
    }

abbrev pub values_in : List Bucket → ℕ → ℕ
values_in bs i = (cell_in (bucket_in bs (i / 4)) (i % 4)).value

-- what a call is lent: any slice, which is a table where 4 times its length is an allowed size
abbrev pub buckets_lent : List Bucket → Table → Lent
buckets_lent bs t =
    record {
      shaped = is_size (size_of bs);
      params = params_of (size_of bs) t.hasher;
      cells = cells_in bs;
      value = values_in bs;
      counts = counts_of t.live;
    }

-- ---- the same buckets as two flat slices

-- the twelve words of a bucket, and its eight deltas
abbrev pub words_in : Bucket → List ℕ
words_in k = words_of (listed 4 (cell_in k))

abbrev pub deltas_in : Bucket → List ℕ
deltas_in k = listed 8 (delta_in k)

-- read out bucket by bucket
unfoldable pub joined : (Bucket → List ℕ) → List Bucket → List ℕ
joined f [] = []
joined f (k ∷ bs) = f k ++ joined f bs

abbrev pub flat_words : List Bucket → List ℕ
flat_words bs = joined words_in bs

abbrev pub flat_deltas : List Bucket → List ℕ
flat_deltas bs = joined deltas_in bs

-- and back: each bucket of a flat table, taken out
unfoldable pub buckets_of : List ℕ → List ℕ → List Bucket
buckets_of ws ds = listed (size_in ds / 4) (bucket_at ws ds)

-- ---- for the workers

-- the bucket of a position
abbrev pub bucket_of : List Bucket → ℕ → Bucket
bucket_of bs p = bucket_in bs (p % size_of bs / 4)

-- cell j of a bucket holds this hash and key
abbrev pub holds_in : Bucket → (j h k : ℕ) → Bool
holds_in b j h k = (cell_in b j).hash == h && (cell_in b j).key == k

-- met at a cell with this value, after n looks
abbrev pub met_with : ℕ → ℕ → Answer
met_with v n = record { said = cond (v == null) absent (found v); looked = n }
