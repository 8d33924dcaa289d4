-- The laws for a table that is lent as two slices and its record, whatever they hold. Assumes nothing.
use mathlib.Core.Bool.{Bool, true, false, cond, ◌&&◌}
use mathlib.Core.List.{List}
use mathlib.Core.Path.{◌≡◌, refl}
use mathlib.Core.Logic.{◌⊎◌, inl, inr}
use Prim.Native.Nat.{ℕ, ◌+◌, ◌≤◌}
use native.Mathlib.Omega.{arith}
use lib.Dec.{leb}
use Rattle.rules.specs.Sizes.{probe_limit}
use Rattle.rules.specs.Cells.{shape}
use Rattle.rules.specs.Answers.{Change, nothing, changed, value_changed}
use Rattle.rules.specs.Calls.{find, insert, remove}
use Rattle.steps.proofs.Sizes.{size_least}
use Rattle.cells.specs.declared.Table.{Table}
use Rattle.cells.specs.Layout.{Shaped, size_in, is_shaped, lent, view, value_in, words_after, deltas_after}
use Rattle.cells.proofs.Shapes.{passed}
use Rattle.cells.proofs.Views.{Within, view_changed, values_changed}
use Rattle.laws.proofs.Ways.{shape_says}
use Rattle.laws.proofs.Looked.{find_most, remove_most, insert_most_128}
use Rattle.laws.proofs.Within.{insert_within, remove_within}

-- the slices after a change hold the cells and the values after it
pub record Viewed (c : Change) (ws ds : List ℕ) : Type 0 where
  pub cells : view (words_after c ws) (deltas_after c ds) ≡ changed c (view ws ds)
  pub values : value_in (words_after c ws) ≡ value_changed c (value_in ws)

none_viewed : (c : Change) (ws ds : List ℕ) → c ≡ nothing → Viewed c ws ds
none_viewed c ws ds e = rw e (record { cells = refl; values = refl })

module _ (ws ds : List ℕ) (t : Table) where
  past_shaped : shape (lent ws ds t) ≡ 0 → Shaped (size_in ds) ws ds
  past_shaped e = go (is_shaped ws ds && leb t.live (size_in ds)) refl e
    where
      go : (b : Bool) → is_shaped ws ds && leb t.live (size_in ds) ≡ b → cond {A = ℕ} b 0 1 ≡ 0 → Shaped (size_in ds) ws ds
      go true q e = (passed ws ds t.live q).0
      go false q e = absurd (omega arith)

  some_cells : shape (lent ws ds t) ≡ 0 → 1 ≤ size_in ds
  some_cells e = omega (arith, size_least (size_in ds) (past_shaped e).size)

  module _ (k : ℕ) where
    -- a find looks at no more than S cells
    pub lent_find_most : (find (lent ws ds t) k).looked ≤ size_in ds
    lent_find_most = find_most (lent ws ds t) some_cells k

    -- so does a remove
    pub lent_remove_most : (remove (lent ws ds t) k).looked ≤ size_in ds
    lent_remove_most = remove_most (lent ws ds t) some_cells k

    -- an insert looks at no more than S + 128
    pub lent_insert_most : (v : ℕ) → (insert (lent ws ds t) k v).looked ≤ size_in ds + probe_limit
    lent_insert_most v = insert_most_128 (lent ws ds t) some_cells k v

    refused_insert : (v : ℕ) → shape (lent ws ds t) ≡ 1 → (insert (lent ws ds t) k v).change ≡ nothing
    unfolding insert
    refused_insert v e = rw e

    refused_remove : shape (lent ws ds t) ≡ 1 → (remove (lent ws ds t) k).change ≡ nothing
    unfolding remove
    refused_remove e = rw e

    either_viewed : (c : Change) → Within (size_in ds) c → (shape (lent ws ds t) ≡ 1 → c ≡ nothing) → (shape (lent ws ds t) ≡ 0) ⊎ (shape (lent ws ds t) ≡ 1) → Viewed c ws ds
    either_viewed c w f (inl e) = record { cells = view_changed (past_shaped e) c w; values = values_changed (past_shaped e) c w }
    either_viewed c w f (inr e) = none_viewed c ws ds (f e)

    -- what an insert makes of the slices is what it makes of the cells
    pub lent_insert_viewed : (v : ℕ) → Viewed (insert (lent ws ds t) k v).change ws ds
    lent_insert_viewed v =
        either_viewed (insert (lent ws ds t) k v).change (insert_within (lent ws ds t) some_cells k v) (refused_insert v) (shape_says (lent ws ds t))

    -- so with a remove
    pub lent_remove_viewed : Viewed (remove (lent ws ds t) k).change ws ds
    lent_remove_viewed =
        either_viewed (remove (lent ws ds t) k).change (remove_within (lent ws ds t) some_cells k) refused_remove (shape_says (lent ws ds t))
