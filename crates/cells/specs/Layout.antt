-- The layout of 01's Memory section: how the two lent slices hold the cells, and what a change of the cells is on them.
use Rattle.std.specs.Prelude.{◌≡◌, ℕ, zero, suc, ◌+◌, ◌*◌, ◌/◌, ◌%◌, ◌≤◌, Bool, true, not, ◌&&◌, List, [], ◌∷◌, length, replicate, ◌==◌, slice_index, slice_set, Result, Ok, Err}
use Rattle.hashers.specs.Keys.{hash_of}
use Rattle.hashers.specs.declared.Hasher.{Hasher}
use Rattle.rules.specs.Sizes.{is_size}
use Rattle.rules.specs.Cells.{Params, Cells, Counts, Lent}
use Rattle.rules.specs.Answers.{Said, Link, unlinked, as_first, as_second, Change, nothing, store, fill, Outcome}
use Rattle.cells.specs.declared.Table.{Table}
use Rattle.cells.specs.declared.NullError.{NullError}

-- null is 2^64 - 2
abbrev pub null : ℕ
null = 18446744073709551614

-- cell i has its first delta at 8*(i/4) + i%4, its second 4 bytes later
abbrev pub first_at : ℕ → ℕ
first_at i = 8 * (i / 4) + i % 4

abbrev pub second_at : ℕ → ℕ
second_at i = first_at i + 4

-- cell i is hash, key, value at 3i
abbrev pub hash_in : List ℕ → ℕ → ℕ
hash_in ws i = slice_index ws (3 * i)

abbrev pub key_in : List ℕ → ℕ → ℕ
key_in ws i = slice_index ws (3 * i + 1)

abbrev pub value_in : List ℕ → ℕ → ℕ
value_in ws i = slice_index ws (3 * i + 2)

abbrev pub holds_in : List ℕ → ℕ → ℕ → ℕ → Bool
holds_in ws i h k = hash_in ws i == h && key_in ws i == k

-- a cell is taken, and its value is not null
abbrev pub live_in : List ℕ → ℕ → Bool
live_in ws i = not (hash_in ws i == 0) && not (value_in ws i == null)

abbrev pub view : List ℕ → List ℕ → Cells
view ws ds =
    record { hash = hash_in ws; key = key_in ws; first = λ i. slice_index ds (first_at i); second = λ i. slice_index ds (second_at i) }

-- S is read off the deltas
abbrev pub size_in : List ℕ → ℕ
size_in ds = length ds / 2

-- 3S words and 2S deltas for an allowed S
unfoldable pub is_shaped : List ℕ → List ℕ → Bool
is_shaped ws ds = is_size (size_in ds) && length ws == 3 * size_in ds && length ds == 2 * size_in ds

abbrev pub params_of : ℕ → Hasher → Params
params_of S hasher = record { S = S; null = null; hash_of = hash_of hasher }

abbrev pub counts_of : ℕ → Counts
counts_of live = record { live = live }

-- what a call is lent
abbrev pub lent : List ℕ → List ℕ → Table → Lent
lent ws ds t =
    record {
      shaped = is_shaped ws ds;
      params = params_of (size_in ds) t.hasher;
      cells = view ws ds;
      value = value_in ws;
      counts = counts_of t.live;
    }

-- n empty cells: hash 0, key 0, value null
unfoldable pub fresh_words : ℕ → List ℕ
fresh_words zero = []
fresh_words (suc n) = 0 ∷ 0 ∷ null ∷ fresh_words n

-- a fresh table of S cells has these deltas
abbrev pub fresh_deltas : ℕ → List ℕ
fresh_deltas S = replicate (2 * S) 0

-- ---- a change, on the slices

abbrev pub filled : List ℕ → (i h k v : ℕ) → List ℕ
filled ws i h k v = slice_set (slice_set (slice_set ws (3 * i) h) (3 * i + 1) k) (3 * i + 2) v

abbrev pub words_after : Change → List ℕ → List ℕ
words_after nothing ws = ws
words_after (store i v) ws = slice_set ws (3 * i + 2) v
words_after (fill i h k v l) ws = filled ws i h k v

abbrev pub linked : Link → List ℕ → List ℕ
linked unlinked ds = ds
linked (as_first i d) ds = slice_set ds (first_at i) d
linked (as_second i d) ds = slice_set ds (second_at i) d

abbrev pub deltas_after : Change → List ℕ → List ℕ
deltas_after nothing ds = ds
deltas_after (store i v) ds = ds
deltas_after (fill i h k v l) ds = linked l ds

-- what a call has done: its answer, the cells looked at, the counts, and both slices afterwards
pub record Done : Type 0 where
  pub said : Said
  pub looked : ℕ
  pub counts : Counts
  pub words : List ℕ
  pub deltas : List ℕ

unfoldable pub done_by : Outcome → List ℕ → List ℕ → Done
done_by o ws ds =
    record {
      said = o.said;
      looked = o.looked;
      counts = o.counts;
      words = words_after o.change ws;
      deltas = deltas_after o.change ds;
    }

-- a call that also hands back the record: the hasher stays
pub record Left : Type 0 where
  pub done : Done
  pub hasher : Hasher

abbrev pub left_by : Outcome → Table → List ℕ → List ℕ → Left
left_by o t ws ds = record { done = done_by o ws ds; hasher = t.hasher }

-- ---- for the workers behind check 1

-- what check 1 gives them: the slices hold S cells, and may go on past them
pub record Shaped (S : ℕ) (ws ds : List ℕ) : Type 0 where
  pub size : is_size S ≡ true
  pub words : 3 * S ≤ length ws
  pub deltas : 2 * S ≤ length ds

-- the number under which a value is refused
abbrev pub offered_by : Result Unit NullError → ℕ
offered_by (Ok u) = 0
offered_by (Err e) = 3
