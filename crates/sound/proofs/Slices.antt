-- The laws of sound tables on the two slices and the record: a fresh table is sound, and what a call leaves, lent again, is the table
-- after it. Assumes nothing.
use mathlib.Core.Bool.{Bool, true, false, cond, ◌&&◌}
use mathlib.Core.List.{List}
use mathlib.Core.Path.{◌≡◌, refl, sym, ap, subst, ◌∙◌}
use Prim.Native.Nat.{ℕ, ◌+◌, ◌*◌, ◌/◌, ◌<◌}
use native.Mathlib.Omega.{arith}
use borrow.Author.Tests.{eq-eqb}
use lib.Dec.{leb}
use lib.ListN.{length, set, length-set, length-replicate, get_or-replicate}
use Rattle.hashers.specs.declared.Hasher.{Hasher}
use Rattle.rules.specs.Sizes.{is_size}
use Rattle.rules.specs.Cells.{Lent, shape}
use Rattle.rules.specs.Answers.{unlinked, as_first, as_second, Change, nothing, store, fill, Outcome}
use Rattle.rules.specs.Calls.{insert, remove}
use Rattle.rules.specs.Sound.{Fresh}
use Rattle.cells.specs.declared.Table.{Table}
use Rattle.cells.specs.Layout.{first_at, second_at, value_in, view, size_in, is_shaped, params_of, counts_of, lent, fresh_words, fresh_deltas, words_after, deltas_after, done_by, left_by}
use Rattle.cells.proofs.Clearing.{fresh_length, fresh_at}
use Rattle.cells.proofs.Shapes.{passed, deltas_hold}
use Rattle.laws.proofs.Lent.{Viewed, lent_insert_viewed, lent_remove_viewed}
use Rattle.sound.specs.State.{after, SoundTable, Sized}
use Rattle.sound.specs.Slices.{lent_by}
use Rattle.sound.proofs.Keeping.{fresh_sound, insert_keeps_sound, remove_keeps_sound}
use Rattle.sound.proofs.ByKey.{sound_shape}

-- check 1 lets past allowed sizes alone
pub lent_sized : (ws ds : List ℕ) (t : Table) → Sized (lent ws ds t)
lent_sized ws ds t e = go (is_shaped ws ds && leb t.live (size_in ds)) refl e
  where
    go : (b : Bool) → is_shaped ws ds && leb t.live (size_in ds) ≡ b → cond {A = ℕ} b 0 1 ≡ 0 → is_size (size_in ds) ≡ true
    go true q e = (passed ws ds t.live q).0.size
    go false q e = absurd (omega arith)

-- ---- a fresh table

module _ (S : ℕ) (size : is_size S ≡ true) (hasher : Hasher) where
  abbrev fresh : Table
  fresh = record { hasher = hasher; live = 0 }

  half : size_in (fresh_deltas S) ≡ S
  half = ap (λ (n : ℕ). n / 2) (length-replicate (2 * S) 0) ∙ omega arith

  fresh_shaped : is_shaped (fresh_words S) (fresh_deltas S) ≡ true
  unfolding is_shaped
  fresh_shaped =
      rw (half, size, eq-eqb (length (fresh_words S)) (3 * S) (fresh_length S), eq-eqb (length (fresh_deltas S)) (2 * S) (length-replicate (2 * S) 0))

  fresh_lent : Fresh (lent (fresh_words S) (fresh_deltas S) fresh).params (view (fresh_words S) (fresh_deltas S)) (value_in (fresh_words S)) (counts_of 0)
  fresh_lent =
      record {
        empty = λ i u. (fresh_at S i (rw half at u)).0;
        clear = λ i u.
            let v : i < S = rw half at u in
            let m : length (fresh_deltas S) ≡ 2 * S = length-replicate (2 * S) 0 in
            let d = deltas_hold S (fresh_deltas S) i size (omega arith) v in
            record {
              no_key = (fresh_at S i v).1;
              no_value = (fresh_at S i v).2;
              no_first = get_or-replicate (2 * S) (first_at i) 0 0 (omega arith);
              no_second = get_or-replicate (2 * S) (second_at i) 0 0 (omega arith);
            };
        none_live = refl;
      }

  -- a fresh table of an allowed size is sound
  pub fresh_lent_sound : SoundTable (lent (fresh_words S) (fresh_deltas S) fresh)
  fresh_lent_sound = fresh_sound _ _ _ _ fresh_lent

  -- and passes check 1
  pub fresh_lent_shape : shape (lent (fresh_words S) (fresh_deltas S) fresh) ≡ 0
  fresh_lent_shape = sound_shape (lent (fresh_words S) (fresh_deltas S) fresh) fresh_lent_sound fresh_shaped

-- ---- what a call leaves

words_length : (c : Change) (ws : List ℕ) → length (words_after c ws) ≡ length ws
words_length nothing ws = refl
words_length (store i v) ws = length-set ws (3 * i + 2) v
words_length (fill i h k v l) ws =
    length-set (set (set ws (3 * i) h) (3 * i + 1) k) (3 * i + 2) v ∙ length-set (set ws (3 * i) h) (3 * i + 1) k ∙ length-set ws (3 * i) h

deltas_length : (c : Change) (ds : List ℕ) → length (deltas_after c ds) ≡ length ds
deltas_length nothing ds = refl
deltas_length (store i v) ds = refl
deltas_length (fill i h k v unlinked) ds = refl
deltas_length (fill i h k v (as_first j d)) ds = length-set ds (first_at j) d
deltas_length (fill i h k v (as_second j d)) ds = length-set ds (second_at j) d

shaped_kept : (ws ws' ds ds' : List ℕ) → length ws' ≡ length ws → length ds' ≡ length ds → is_shaped ws' ds' ≡ is_shaped ws ds
unfolding is_shaped
shaped_kept ws ws' ds ds' a b = rw (a, b)

module _ (ws ds : List ℕ) (t : Table) where
  -- the slices and the record after an outcome, lent again, are the table after it
  lent_after : (o : Outcome) → Viewed o.change ws ds → lent_by (left_by o t ws ds) ≡ after (lent ws ds t) o
  unfolding done_by
  lent_after o v = λ i. record {
    shaped = shaped_kept ws (words_after o.change ws) ds (deltas_after o.change ds) (words_length o.change ws) (deltas_length o.change ds) i;
    params = params_of (deltas_length o.change ds i / 2) t.hasher;
    cells = v.cells i;
    value = v.values i;
    counts = o.counts;
  }

  module _ (k : ℕ) where
    -- so with an insert
    pub lent_after_insert : (v : ℕ) → lent_by (left_by (insert (lent ws ds t) k v) t ws ds) ≡ after (lent ws ds t) (insert (lent ws ds t) k v)
    lent_after_insert v = lent_after (insert (lent ws ds t) k v) (lent_insert_viewed ws ds t k v)

    -- and with a remove
    pub lent_after_remove : lent_by (left_by (remove (lent ws ds t) k) t ws ds) ≡ after (lent ws ds t) (remove (lent ws ds t) k)
    lent_after_remove = lent_after (remove (lent ws ds t) k) (lent_remove_viewed ws ds t k)

    module _ (s : SoundTable (lent ws ds t)) where
      -- an insert leaves sound slices
      pub lent_insert_sound : (v : ℕ) → SoundTable (lent_by (left_by (insert (lent ws ds t) k v) t ws ds))
      lent_insert_sound v = subst (λ (l : Lent). SoundTable l) (sym (lent_after_insert v)) (insert_keeps_sound (lent ws ds t) (lent_sized ws ds t) s k v)

      -- so does a remove
      pub lent_remove_sound : SoundTable (lent_by (left_by (remove (lent ws ds t) k) t ws ds))
      lent_remove_sound = subst (λ (l : Lent). SoundTable l) (sym lent_after_remove) (remove_keeps_sound (lent ws ds t) (lent_sized ws ds t) s k)
