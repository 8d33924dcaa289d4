-- The laws of setting for a table lent as two slices and its record. Assumes nothing.
use mathlib.Core.List.{List}
use mathlib.Core.Logic.{◌≢◌}
use mathlib.Core.Path.{◌≡◌, sym, ap, subst, ◌∙◌}
use Prim.Native.Nat.{ℕ, ◌+◌, ◌*◌}
use lib.ListN.{set, length-set}
use Rattle.rules.specs.Cells.{Lent}
use Rattle.rules.specs.Answers.{replaced, Change, store, Outcome}
use Rattle.rules.specs.Cursor.{set_value}
use Rattle.cells.specs.declared.Table.{Table}
use Rattle.cells.specs.Layout.{key_in, size_in, is_shaped, params_of, counts_of, lent, done_by, left_by, words_after}
use Rattle.cells.proofs.Shapes.{shaped}
use Rattle.cells.proofs.Views.{view_changed, values_changed}
use Rattle.sound.specs.State.{live_cell, state_of, after, SoundTable}
use Rattle.sound.specs.Slices.{lent_by}
use Rattle.sound.proofs.ByKey.{shape_shaped}
use Rattle.walked.specs.Ways as ways
use Rattle.walked.specs.Ways.{SetWay}
use Rattle.walked.proofs.Ways.{set_way}
use Rattle.walked.proofs.Sets.{set_keeps_sound, set_own, set_others, set_leaves}

shaped_set : (ws ds : List ℕ) (n v : ℕ) → is_shaped (set ws n v) ds ≡ is_shaped ws ds
unfolding is_shaped
shaped_set ws ds n v = rw (length-set ws n v)

module _ (ws ds : List ℕ) (t : Table) (i v : ℕ) where
  abbrev l : Lent
  l = lent ws ds t

  -- what a setting leaves in the slices and the record, lent again, is the table after it
  pub lent_after_set : lent_by (left_by (set_value (lent ws ds t) i v) t ws ds) ≡ after (lent ws ds t) (set_value (lent ws ds t) i v)
  unfolding done_by
  lent_after_set = go (set_value l i v) (set_way l i v)
    where
      go : (o : Outcome) → SetWay l i v o → lent_by (left_by o t ws ds) ≡ after l o
      go o (ways.by1 a e) = rw e
      go o (ways.by1_index a u e) = rw e
      go o (ways.by3 a u n e) = rw e
      go o (ways.lacks a u n y e) = rw e
      go o (ways.sets a u n y e) =
          let s = shaped ws ds (shape_shaped l a) in
          rw e
          (λ k. record {
            shaped = shaped_set ws ds (3 * i + 2) v k;
            params = params_of (size_in ds) t.hasher;
            cells = view_changed s (store i v) u k;
            value = values_changed s (store i v) u k;
            counts = counts_of t.live;
          })

  -- the slices stay sound
  pub lent_set_sound : SoundTable (lent ws ds t) → SoundTable (lent_by (left_by (set_value (lent ws ds t) i v) t ws ds))
  lent_set_sound s = subst (λ (x : Lent). SoundTable x) (sym lent_after_set) (set_keeps_sound l i v s)

  -- where it replaces, the cell's key is live with the new value
  pub lent_set_own : SoundTable (lent ws ds t) → (old : ℕ) → (set_value (lent ws ds t) i v).said ≡ replaced old
      → state_of (lent_by (left_by (set_value (lent ws ds t) i v) t ws ds)) (key_in ws i) ≡ live_cell v
  lent_set_own s old q = ap (λ (x : Lent). state_of x (key_in ws i)) lent_after_set ∙ set_own l i v s old q

  -- every other key's state stays
  pub lent_set_others : (k : ℕ) → k ≢ key_in ws i → state_of (lent_by (left_by (set_value (lent ws ds t) i v) t ws ds)) k ≡ state_of (lent ws ds t) k
  lent_set_others k d = ap (λ (x : Lent). state_of x k) lent_after_set ∙ set_others l i v k d

  -- an answer other than Replaced leaves the words
  pub lent_set_leaves : ((old : ℕ) → (set_value (lent ws ds t) i v).said ≢ replaced old) → (left_by (set_value (lent ws ds t) i v) t ws ds).done.words ≡ ws
  unfolding done_by
  lent_set_leaves f = ap (λ (c : Change). words_after c ws) (set_leaves l i v f).change
