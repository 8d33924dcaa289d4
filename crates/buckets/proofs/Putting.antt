-- Putting a bucket back: what is put is what is taken next, what was taken leaves all, and no other bucket changes. Assumes nothing.
use mathlib.Core.Bool.{Bool, true, false}
use mathlib.Core.List.{List, [], ◌∷◌}
use mathlib.Core.Path.{◌≡◌, refl, sym, ap, ◌∙◌}
use Prim.Native.Nat.{ℕ, zero, suc, ◌+◌, ◌*◌, ◌<◌, ◌≤◌}
use native.Mathlib.Nat.{add-zero}
use native.Mathlib.Omega.{arith}
use borrow.Author.Tests.{lt-ltb}
use lib.Dec.{ltb}
use lib.ListN.{length, get_or, set, length-set}
use lib.Seq.{set-get_or, get_or-set_other, sets}
use Rattle.cells.specs.Layout.{is_shaped}
use Rattle.buckets.specs.Buckets.{listed, cell_at, bucket_at, delta_in, cell_in, words_of, words_with, deltas_with, fits_bucket, filled_by, with_cell, done, taking, putting, changing}
use Rattle.buckets.specs.declared.Bucket.{Bucket}
use Rattle.cells.specs.declared.Cell.{Cell}
use Rattle.buckets.proofs.Lists.{spelt, listed_same, get_d_listed, replaced_length, replaced_own, replaced_other}
use Rattle.buckets.proofs.Stores.{inside, all_deltas, fills, cells_stored, deltas_stored}

-- ---- lengths, and the other buckets

module _ (ws ds : List ℕ) (b : ℕ) (k : Bucket) (fit : fits_bucket ws ds b ≡ true) where
  pub put_keeps_lengths : (length (words_with ws b k) ≡ length ws) × (length (deltas_with ds b k) ≡ length ds)
  unfolding words_with deltas_with
  put_keeps_lengths =
      let i = inside ws ds b fit in (
        replaced_length ws (words_of (listed 4 (cell_in k))) (12 * b) 12 refl (omega arith),
        replaced_length ds (listed 8 (delta_in k)) (8 * b) 8 refl (omega arith),
      )

  pub put_keeps_words : (i : ℕ) → (12 * b ≤ i → i < 12 * b + 12 → ⊥) → get_or (words_with ws b k) i 0 ≡ get_or ws i 0
  unfolding words_with
  put_keeps_words i out =
      let n = inside ws ds b fit in
      replaced_other ws (words_of (listed 4 (cell_in k))) (12 * b) 12 refl (omega arith) i out

  pub put_keeps_deltas : (i : ℕ) → (8 * b ≤ i → i < 8 * b + 8 → ⊥) → get_or (deltas_with ds b k) i 0 ≡ get_or ds i 0
  unfolding deltas_with
  put_keeps_deltas i out =
      let n = inside ws ds b fit in
      replaced_other ds (listed 8 (delta_in k)) (8 * b) 8 refl (omega arith) i out

  put_keeps_cell : (i : ℕ) → (4 * b ≤ i → i < 4 * b + 4 → ⊥) → cell_at (words_with ws b k) i ≡ cell_at ws i
  put_keeps_cell i out =
      let h = put_keeps_words (3 * i) (λ p q. out (omega arith) (omega arith)) in
      let y = put_keeps_words (3 * i + 1) (λ p q. out (omega arith) (omega arith)) in
      let v = put_keeps_words (3 * i + 2) (λ p q. out (omega arith) (omega arith)) in
      λ t. record { hash = h t; key = y t; value = v t }

  pub put_keeps_buckets : (c : ℕ) → (c ≡ b → ⊥) → bucket_at (words_with ws b k) (deltas_with ds b k) c ≡ bucket_at ws ds c
  unfolding bucket_at
  put_keeps_buckets c other =
      let d = listed_same 8 (λ j. get_or (deltas_with ds b k) (8 * c + j) 0) (λ j. get_or ds (8 * c + j) 0)
      (λ j h. put_keeps_deltas (8 * c + j) (λ p q. other (omega arith))) in
      let w = listed_same 4 (λ j. cell_at (words_with ws b k) (4 * c + j)) (λ j. cell_at ws (4 * c + j))
      (λ j h. put_keeps_cell (4 * c + j) (λ p q. other (omega arith))) in
      λ t. record { deltas = d t; cells = w t }

-- ---- put, then taken

-- cell j of the words of cells
cell_of_words : (cs : List Cell) (j : ℕ) → cell_at (words_of cs) j ≡ get_or cs j (record { hash = 0; key = 0; value = 0 })
cell_of_words [] j = refl
cell_of_words (c ∷ cs) zero = refl
cell_of_words (c ∷ cs) (suc j) =
    let h : 3 * suc j ≡ suc (suc (suc (3 * j))) = omega arith in
    let y : 3 * suc j + 1 ≡ suc (suc (suc (3 * j + 1))) = omega arith in
    let v : 3 * suc j + 2 ≡ suc (suc (suc (3 * j + 2))) = omega arith in
    rw (y, v, h) (cell_of_words cs j)

-- a bucket of the language: eight deltas and four cells
pub record Whole (k : Bucket) : Type 0 where
  pub deltas : length k.deltas ≡ 8
  pub cells : length k.cells ≡ 4

all_cells : (k : Bucket) → Whole k → listed 4 (cell_in k) ≡ k.cells
all_cells k w = rw w.cells at (spelt k.cells (record { hash = 0; key = 0; value = 0 }))

pub taken_whole : (ws ds : List ℕ) (b : ℕ) → Whole (taking ws ds b).bucket
unfolding taking bucket_at
taken_whole ws ds b = go (fits_bucket ws ds b) refl
  where
    go : (t : Bool) → fits_bucket ws ds b ≡ t → Whole (taking ws ds b).bucket
    go true e = rw e (record { deltas = refl; cells = refl })
    go false e = rw e (record { deltas = refl; cells = refl })

pub changed_whole : (k : Bucket) (j : ℕ) (c : Cell) → Whole k → Whole (changing k j c).bucket
unfolding changing
changed_whole k j c w = go (ltb j 4) refl
  where
    go : (t : Bool) → ltb j 4 ≡ t → Whole (changing k j c).bucket
    go true e = rw e (record { deltas = w.deltas; cells = length-set k.cells j c ∙ w.cells })
    go false e = rw e w

module _ (ws ds : List ℕ) (b : ℕ) (k : Bucket) (fit : fits_bucket ws ds b ≡ true) where
  put_delta : (j : ℕ) → j < 8 → get_or (deltas_with ds b k) (8 * b + j) 0 ≡ delta_in k j
  unfolding deltas_with
  put_delta j h =
      let n = inside ws ds b fit in
      replaced_own ds (listed 8 (delta_in k)) (8 * b) 8 refl (omega arith) j h ∙ get_d_listed 8 (delta_in k) j 0 h

  put_word : (j : ℕ) → j < 12 → get_or (words_with ws b k) (12 * b + j) 0 ≡ get_or (words_of (listed 4 (cell_in k))) j 0
  unfolding words_with
  put_word j h =
      let n = inside ws ds b fit in
      replaced_own ws (words_of (listed 4 (cell_in k))) (12 * b) 12 refl (omega arith) j h

  put_cell : (j : ℕ) → j < 4 → cell_at (words_with ws b k) (4 * b + j) ≡ cell_in k j
  put_cell j h =
      let x : 3 * (4 * b + j) ≡ 12 * b + 3 * j = omega arith in
      let y : 3 * (4 * b + j) + 1 ≡ 12 * b + (3 * j + 1) = omega arith in
      let v : 3 * (4 * b + j) + 2 ≡ 12 * b + (3 * j + 2) = omega arith in
      let e : cell_at (words_with ws b k) (4 * b + j) ≡ cell_at (words_of (listed 4 (cell_in k))) j =
      rw (y, v, x, put_word (3 * j) (omega arith), put_word (3 * j + 1) (omega arith), put_word (3 * j + 2) (omega arith)) in
      e ∙ cell_of_words (listed 4 (cell_in k)) j ∙ get_d_listed 4 (cell_in k) j _ h

  pub put_then_at : Whole k → bucket_at (words_with ws b k) (deltas_with ds b k) b ≡ k
  unfolding bucket_at
  put_then_at w =
      let d = listed_same 8 (λ j. get_or (deltas_with ds b k) (8 * b + j) 0) (delta_in k) put_delta ∙ all_deltas k w.deltas in
      let c = listed_same 4 (λ j. cell_at (words_with ws b k) (4 * b + j)) (cell_in k) put_cell ∙ all_cells k w in
      λ t. record { deltas = d t; cells = c t }

  pub put_still_fits : fits_bucket (words_with ws b k) (deltas_with ds b k) b ≡ true
  unfolding fits_bucket is_shaped
  put_still_fits =
      let l = put_keeps_lengths ws ds b k fit in
      rw (l.0, l.1) fit

  -- what is put is what is taken next
  pub put_then_take : Whole k → taking (putting ws ds b k).words (putting ws ds b k).deltas b ≡ record { said = done; bucket = k }
  unfolding taking putting
  put_then_take w = rw (fit, put_still_fits, put_then_at w)

-- ---- taken, then put

step : (i j : ℕ) → i + suc j ≡ suc i + j
step i j = omega arith

-- deltas that are stored where they stand
deltas_again : (n : ℕ) (ds : List ℕ) (i : ℕ) → sets ds i (listed n (λ j. get_or ds (i + j) 0)) ≡ ds
deltas_again zero ds i = refl
deltas_again (suc n) ds i =
    let own : set ds i (get_or ds (i + 0) 0) ≡ ds = rw (add-zero i) (set-get_or ds i 0) in
    ap (λ (l : List ℕ). sets l (suc i) (listed n (λ j. get_or ds (i + suc j) 0))) own
    ∙ ap (λ (v : List ℕ). sets ds (suc i) v) (listed_same n (λ j. get_or ds (i + suc j) 0) (λ j. get_or ds (suc i + j) 0) (λ j h. rw (step i j)))
    ∙ deltas_again n ds (suc i)

-- a cell of us that is stored where ws has the same
filled_again : (us ws : List ℕ) (i : ℕ) → cell_at ws i ≡ cell_at us i → filled_by ws i (cell_at us (i + 0)) ≡ ws
filled_again us ws i own = rw (add-zero i) (ap (λ (c : Cell). filled_by ws i c) (sym own) ∙ simp set-get_or)

past : (l : List ℕ) (i j a : ℕ) → i < j → get_or (set l i a) j 0 ≡ get_or l j 0
past l i j a h = get_or-set_other l i j a 0 (λ e. omega arith)

filled_past : (ws : List ℕ) (i : ℕ) (c : Cell) (n : ℕ) → 3 * i + 2 < n → get_or (filled_by ws i c) n 0 ≡ get_or ws n 0
filled_past ws i c n h =
    past (set (set ws (3 * i) c.hash) (3 * i + 1) c.key) (3 * i + 2) n c.value h
    ∙ past (set ws (3 * i) c.hash) (3 * i + 1) n c.key (omega arith)
    ∙ past ws (3 * i) n c.hash (omega arith)

filled_later : (ws : List ℕ) (i : ℕ) (c : Cell) (m : ℕ) → i < m → cell_at (filled_by ws i c) m ≡ cell_at ws m
filled_later ws i c m h =
    rw (filled_past ws i c (3 * m) (omega arith), filled_past ws i c (3 * m + 1) (omega arith), filled_past ws i c (3 * m + 2) (omega arith))

-- the n cells of us from i on
abbrev cells_from : List ℕ → ℕ → ℕ → List Cell
cells_from us n i = listed n (λ j. cell_at us (i + j))

cells_next : (us : List ℕ) (n i : ℕ) → listed n (λ j. cell_at us (i + suc j)) ≡ cells_from us n (suc i)
cells_next us n i = listed_same n (λ j. cell_at us (i + suc j)) (λ j. cell_at us (suc i + j)) (λ j h. rw (step i j))

-- cells that are stored where they stand, in words that agree with us from cell i on
cells_again : (n : ℕ) (us ws : List ℕ) (i : ℕ) → ((m : ℕ) → i ≤ m → cell_at ws m ≡ cell_at us m) → fills ws i (cells_from us n i) ≡ ws
cells_again zero us ws i own = refl
cells_again (suc n) us ws i own =
    let e = filled_again us ws i (own i (omega arith)) in
    ap (λ (l : List ℕ). fills l (suc i) (listed n (λ j. cell_at us (i + suc j)))) e
    ∙ ap (λ (cs : List Cell). fills ws (suc i) cs) (cells_next us n i)
    ∙ cells_again n us ws (suc i) (λ m h. own m (omega arith))

-- the same with another cell j: that cell alone is filled
cells_but_one : (n : ℕ) (us ws : List ℕ) (i j : ℕ) (c : Cell) → j < n → ((m : ℕ) → i ≤ m → cell_at ws m ≡ cell_at us m) → fills ws i (set (cells_from us n i) j c) ≡ filled_by ws (i + j) c
cells_but_one zero us ws i j c h own = absurd (omega arith)
cells_but_one (suc n) us ws i zero c h own =
    ap (λ (cs : List Cell). fills (filled_by ws i c) (suc i) cs) (cells_next us n i)
    ∙ cells_again n us (filled_by ws i c) (suc i) (λ m q. filled_later ws i c m (omega arith) ∙ own m (omega arith))
    ∙ rw (add-zero i)
cells_but_one (suc n) us ws i (suc j) c h own =
    let e = filled_again us ws i (own i (omega arith)) in
    ap (λ (l : List ℕ). fills l (suc i) (set (listed n (λ j. cell_at us (i + suc j))) j c)) e
    ∙ ap (λ (cs : List Cell). fills ws (suc i) (set cs j c)) (cells_next us n i)
    ∙ cells_but_one n us ws (suc i) j c (omega arith) (λ m q. own m (omega arith))
    ∙ rw (step i j)

module _ (ws ds : List ℕ) (b : ℕ) (fit : fits_bucket ws ds b ≡ true) where
  words_again : words_with ws b (bucket_at ws ds b) ≡ ws
  unfolding bucket_at
  words_again = sym (cells_stored ws b (bucket_at ws ds b) (inside ws ds b fit).words) ∙ cells_again 4 ws ws (4 * b) (λ m h. refl)

  same_deltas : deltas_with ds b (bucket_at ws ds b) ≡ ds
  unfolding bucket_at
  same_deltas = sym (deltas_stored ds b (bucket_at ws ds b) (inside ws ds b fit).deltas) ∙ deltas_again 8 ds (8 * b)

-- what was taken, put back, leaves both slices; where taking is refused, putting is
pub take_then_put : (ws ds : List ℕ) (b : ℕ) → putting ws ds b (taking ws ds b).bucket ≡ record { said = (taking ws ds b).said; words = ws; deltas = ds }
unfolding taking putting
take_then_put ws ds b = go (fits_bucket ws ds b) refl
  where
    go : (t : Bool) → fits_bucket ws ds b ≡ t → putting ws ds b (taking ws ds b).bucket ≡ record { said = (taking ws ds b).said; words = ws; deltas = ds }
    go true e = rw (e, words_again ws ds b e, same_deltas ws ds b e)
    go false e = rw e

-- ---- one cell changed

with_cell_put : (ws ds : List ℕ) (b j : ℕ) (c : Cell) → fits_bucket ws ds b ≡ true → j < 4 →
    putting ws ds b (with_cell (bucket_at ws ds b) j c) ≡ record { said = done; words = filled_by ws (4 * b + j) c; deltas = ds }
unfolding putting bucket_at deltas_with
with_cell_put ws ds b j c fit h =
    let k = with_cell (bucket_at ws ds b) j c in
    let l : length k.cells ≡ 4 = length-set (cells_from ws 4 (4 * b)) j c in
    let cs : listed 4 (cell_in k) ≡ k.cells = rw l at (spelt k.cells (record { hash = 0; key = 0; value = 0 })) in
    let w : words_with ws b k ≡ filled_by ws (4 * b + j) c =
    sym (cells_stored ws b k (inside ws ds b fit).words)
    ∙ ap (λ (v : List Cell). fills ws (4 * b) v) cs
    ∙ cells_but_one 4 ws ws (4 * b) j c h (λ m q. refl) in
    rw (fit, w, same_deltas ws ds b fit)

-- taken, changed in cell j, put back: cell 4b + j is filled, and nothing else changes
pub change_one_cell : (ws ds : List ℕ) (b j : ℕ) (c : Cell) → fits_bucket ws ds b ≡ true → j < 4 →
    putting ws ds b (changing (taking ws ds b).bucket j c).bucket ≡ record { said = done; words = filled_by ws (4 * b + j) c; deltas = ds }
unfolding taking changing
change_one_cell ws ds b j c fit h = rw (fit, lt-ltb j 4 h) (with_cell_put ws ds b j c fit h)
