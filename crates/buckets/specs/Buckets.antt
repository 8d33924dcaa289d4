-- Buckets: where they stand in the two lent slices, and what each call on one says and leaves.
use Rattle.std.specs.Prelude.{Bool, cond, ◌&&◌, List, [], ◌∷◌, ◌++◌, ℕ, zero, suc, ◌+◌, ◌*◌, ◌/◌, ◌<◌, ltb, get_or, set, take, drop, replicate, Result, Ok, Err}
use Rattle.cells.specs.Layout.{null, hash_in, key_in, value_in, filled, size_in, is_shaped}
use Rattle.cells.specs.declared.Cell.{Cell}
use Rattle.cells.specs.declared.ShapeError.{ShapeError}
use Rattle.buckets.specs.declared.Bucket.{Bucket}
use Rattle.buckets.specs.declared.Unchanged.{Unchanged}

-- f 0 to f (n - 1)
abbrev pub listed : {A : Type 0} → ℕ → (ℕ → A) → List A
listed zero f = []
listed (suc n) f = f 0 ∷ listed n (λ i. f (suc i))

-- ---- a bucket in the slices

abbrev pub cell_at : List ℕ → ℕ → Cell
cell_at ws i = record { hash = hash_in ws i; key = key_in ws i; value = value_in ws i }

-- bucket b: the eight deltas from 8b on, the four cells from 4b on
unfoldable pub bucket_at : List ℕ → List ℕ → ℕ → Bucket
bucket_at ws ds b = record { deltas = listed 8 (λ j. get_or ds (8 * b + j) 0); cells = listed 4 (λ j. cell_at ws (4 * b + j)) }

-- what a bucket holds: delta j and cell j (no call reads past the last)
abbrev pub delta_in : Bucket → ℕ → ℕ
delta_in k j = get_or k.deltas j 0

abbrev pub cell_in : Bucket → ℕ → Cell
cell_in k j = get_or k.cells j (record { hash = 0; key = 0; value = 0 })

-- the words of cells, one after the other
abbrev pub words_of : List Cell → List ℕ
words_of [] = []
words_of (c ∷ cs) = c.hash ∷ c.key ∷ c.value ∷ words_of cs

-- the slices with this bucket as bucket b: what is before it, its own twelve words or eight deltas, what is after it
unfoldable pub words_with : List ℕ → ℕ → Bucket → List ℕ
words_with ws b k = take (12 * b) ws ++ words_of (listed 4 (cell_in k)) ++ drop (12 * b + 12) ws

unfoldable pub deltas_with : List ℕ → ℕ → Bucket → List ℕ
deltas_with ds b k = take (8 * b) ds ++ listed 8 (delta_in k) ++ drop (8 * b + 8) ds

-- a table of an allowed size S, and a bucket index below S/4
unfoldable pub fits_bucket : List ℕ → List ℕ → ℕ → Bool
fits_bucket ws ds b = is_shaped ws ds && ltb b (size_in ds / 4)

-- hash 0, key 0, value null, and no delta
abbrev pub empty_cell : Cell
empty_cell = record { hash = 0; key = 0; value = null }

abbrev pub empty_bucket : Bucket
empty_bucket = record { deltas = replicate 8 0; cells = replicate 4 empty_cell }

-- ---- what the calls say and leave

-- done, a cell, or a refusal by its number
pub data Said : Type 0 where
  done : Said
  cell : Cell → Said
  refused : ℕ → Said

-- each case's number and value
abbrev pub put_said : Result Unit ShapeError → Said
put_said (Ok u) = done
put_said (Err e) = refused 1

abbrev pub cell_said : Result Cell ShapeError → Said
cell_said (Ok c) = cell c
cell_said (Err e) = refused 1

-- a call that hands back a bucket
pub record Handed : Type 0 where
  pub said : Said
  pub bucket : Bucket

-- what a caller has then: the bucket, or under a refusal an empty one, which is Bucket's default
abbrev pub taken : Result Bucket ShapeError → Handed
taken (Ok k) = record { said = done; bucket = k }
taken (Err e) = record { said = refused 1; bucket = empty_bucket }

-- and of a bucket that was to be changed: the changed one, or under a refusal the one that it was
abbrev pub changed : Result Bucket Unchanged → Handed
changed (Ok k) = record { said = done; bucket = k }
changed (Err e) = record { said = refused 1; bucket = e.0 }

-- a call that writes both slices
pub record Left : Type 0 where
  pub said : Said
  pub words : List ℕ
  pub deltas : List ℕ

abbrev pub left : Result Unit ShapeError → List ℕ → List ℕ → Left
left s ws ds = record { said = put_said s; words = ws; deltas = ds }

-- taking bucket b out
unfoldable pub taking : List ℕ → List ℕ → ℕ → Handed
taking ws ds b =
    cond (fits_bucket ws ds b) (record { said = done; bucket = bucket_at ws ds b }) (record { said = refused 1; bucket = empty_bucket })

-- putting a bucket back as bucket b
unfoldable pub putting : List ℕ → List ℕ → ℕ → Bucket → Left
putting ws ds b k =
    cond (fits_bucket ws ds b)
    (record { said = done; words = words_with ws b k; deltas = deltas_with ds b k })
    (record { said = refused 1; words = ws; deltas = ds })

-- cell j of a bucket
unfoldable pub reading : Bucket → ℕ → Said
reading k j = cond (ltb j 4) (cell (cell_in k j)) (refused 1)

-- a bucket with another cell j
abbrev pub with_cell : Bucket → ℕ → Cell → Bucket
with_cell k j c = record { deltas = k.deltas; cells = set k.cells j c }

unfoldable pub changing : Bucket → ℕ → Cell → Handed
changing k j c = cond (ltb j 4) (record { said = done; bucket = with_cell k j c }) (record { said = refused 1; bucket = k })

-- ---- for the workers behind the test

abbrev pub filled_by : List ℕ → ℕ → Cell → List ℕ
filled_by ws i c = filled ws i c.hash c.key c.value

-- bucket b lies inside w words and d deltas
pub record Inside (w d b : ℕ) : Type 0 where
  pub words : 12 * b + 11 < w
  pub deltas : 8 * b + 7 < d
