-- Within a shaped table the cell of any position lies within both slices. Assumes nothing.
use Rattle.std.proofs.Common.{◌≡◌, ℕ, ◌+◌, ◌*◌, ◌%◌, ◌<◌, ◌≤◌, Bool, true, false, cond, ◌&&◌, eqb, leb, List, length, Some, None, refl, ap, ◌∙◌, mod-lt, arith, eqb-true, leb-true}
use Rattle.rules.specs.Sizes.{is_size}
use Rattle.steps.proofs.Sizes.{size_least, size_fours}
use Rattle.cells.specs.Layout.{Shaped, is_shaped, size_in, second_at, hash_in}

-- cell i of S cells
pub words_hold : (S : ℕ) (ws : List ℕ) (i : ℕ) → 3 * S ≤ length ws → i < S → 3 * i + 2 < length ws
words_hold S ws i l h = omega arith

pub deltas_hold : (S : ℕ) (ds : List ℕ) (i : ℕ) → is_size S ≡ true → 2 * S ≤ length ds → i < S → second_at i < length ds
deltas_hold S ds i s l h = let f = size_fours S s in omega arith

-- the cell of a position is one of them
pub cell_lt : (S x i : ℕ) → is_size S ≡ true → i ≡ x % S → i < S
cell_lt S x i s e = let b = size_least S s in let m = mod-lt x {m = S} (omega arith) in omega arith

module _ {S : ℕ} {ws ds : List ℕ} (s : Shaped S ws ds) where
  pub in_words : (x : ℕ) {i : ℕ} → i ≡ x % S → 3 * i + 2 < length ws
  in_words x {i} e = words_hold S ws i s.words (cell_lt S x i s.size e)

  pub in_deltas : (x : ℕ) {i : ℕ} → i ≡ x % S → second_at i < length ds
  in_deltas x {i} e = deltas_hold S ds i s.size s.deltas (cell_lt S x i s.size e)

-- a cell whose hash was read and is not 0
pub taken_there : (ws : List ℕ) {j i x : ℕ} → i ≡ j → x ≡ hash_in ws i → (x ≡ 0 → ⊥) → hash_in ws j ≡ 0 → ⊥
taken_there ws e q n z = n (q ∙ ap (hash_in ws) e ∙ z)

-- ---- what check 1 shows

both : (a b : Bool) → a && b ≡ true → (a ≡ true) × (b ≡ true)
both true b e = (refl, e)
both false b e = let z : ◌≡◌ {A = ℕ} 0 1 = cc in absurd (omega arith)

-- the lengths are just those of the cells
pub exact_lengths : (ws ds : List ℕ) → is_shaped ws ds ≡ true → (length ws ≡ 3 * size_in ds) × (length ds ≡ 2 * size_in ds)
unfolding is_shaped
exact_lengths ws ds e =
    let a = both (is_size (size_in ds) && eqb (length ws) (3 * size_in ds)) _ e in
    let b = both (is_size (size_in ds)) _ a.0 in
    (eqb-true _ _ b.1, eqb-true _ _ a.1)

pub shaped : (ws ds : List ℕ) → is_shaped ws ds ≡ true → Shaped (size_in ds) ws ds
unfolding is_shaped
shaped ws ds e =
    let l = exact_lengths ws ds e in
    let a = both (is_size (size_in ds) && eqb (length ws) (3 * size_in ds)) _ e in
    let b = both (is_size (size_in ds)) _ a.0 in
    record { size = b.0; words = omega (arith, l.0); deltas = omega (arith, l.1) }

pub passed : (ws ds : List ℕ) (live : ℕ) → is_shaped ws ds && leb live (size_in ds) ≡ true → Shaped (size_in ds) ws ds × (live ≤ size_in ds)
passed ws ds live e = let a = both _ _ e in (shaped ws ds a.0, leb-true _ _ a.1)

-- and by its size, where it gives one
pub sized : (b : Bool) (S : ℕ) {s : ℕ} → Some s ≡ cond b (Some S) None → (b ≡ true) × (s ≡ S)
sized true S e = (refl, cc)
sized false S e = let z : ◌≡◌ {A = ℕ} 0 1 = cc in absurd (omega arith)

pub unsized : (b : Bool) (S : ℕ) → None ≡ cond b (Some S) None → b ≡ false
unsized true S e = let z : ◌≡◌ {A = ℕ} 0 1 = cc in absurd (omega arith)
unsized false S e = refl

pub sized_shape : (ws ds : List ℕ) (live : ℕ) {s : ℕ} → Some s ≡ cond (is_shaped ws ds && leb live (size_in ds)) (Some (size_in ds)) None → Shaped s ws ds × (live ≤ s)
sized_shape ws ds live e =
    let a = sized _ (size_in ds) e in
    rw a.1 (passed ws ds live a.0)
