-- What a call on a part left, said of the half; and what a call on one half left, said of both. Assumes nothing.
use mathlib.Core.Bool.{true, false, ◌&&◌}
use mathlib.Core.List.{List, [], ◌++◌}
use mathlib.Core.Path.{◌≡◌, refl, sym, ap, ◌∙◌}
use Prim.Native.Nat.{ℕ, ◌*◌}
use lib.ListN.{take, drop}
use Rattle.hashers.specs.declared.Hasher.{Hasher}
use Rattle.rules.specs.Cells.{Counts}
use Rattle.rules.specs.Growing.{in_use}
use Rattle.rules.specs.Answers.{Said, refused, Outcome, leave}
use Rattle.rules.specs.Calls.{remove}
use Rattle.steps.proofs.Branches.{remove_shape}
use Rattle.cells.specs.Layout.{Shaped, size_in, counts_of, lent, Left, done_by, left_by}
use Rattle.cells.specs.declared.Table.{Table}
use Rattle.cells.proofs.Views.{Within}
use Rattle.hashmap.specs.Answers.{remove_left}
use Rattle.hashmap.specs.declared.RemoveAnswer.{RemoveAnswer}
use Rattle.parts.specs.Halves.{half_of, are_halves, record_fits, lent_halves}
use Rattle.halves.specs.Answers.{four, four_after, HalvesLeft, halves_by, remove_rule, removed_from, remove_halves_left}
use Rattle.parts.specs.declared.Half.{Half}
use Rattle.parts.specs.declared.Half.TheVariants.{Lower, Upper}
use Rattle.parts.specs.declared.Growing.{Growing}
use Rattle.halves.specs.declared.GrowingRemoveAnswer.{GrowingRemoveAnswer}
use Rattle.parts.proofs.Checks.{shape_fails}
use Rattle.halves.proofs.Fronts.{words_joined, deltas_joined, front_remove}

-- a call on the parts left this in them; with the rest behind, the slices are left by the same outcome
module _ {S : ℕ} {ws ds : List ℕ} (s : Shaped S ws ds) (o : Outcome) (w : Within S o.change) (t : Table) where
  pub left_joined : {x : Said} {n : ℕ} {c : Counts} {h : Hasher} (y z : List ℕ) {ws' ds' : List ℕ} → ws' ≡ y ++ drop (3 * S) ws → ds' ≡ z ++ drop (2 * S) ds
      → record { done = record { said = x; looked = n; counts = c; words = y; deltas = z }; hasher = h } ≡ left_by o t (take (3 * S) ws) (take (2 * S) ds)
      → record { done = record { said = x; looked = n; counts = c; words = ws'; deltas = ds' }; hasher = h } ≡ left_by o t ws ds
  unfolding done_by
  left_joined y z ew ed e =
      let a = ew ∙ ap (λ (l : Left). l.done.words ++ drop (3 * S) ws) e ∙ words_joined s o.change w in
      let b = ed ∙ ap (λ (l : Left). l.done.deltas ++ drop (2 * S) ds) e ∙ deltas_joined s o.change w in
      λ i. record {
        done = record { said = (e i).done.said; looked = (e i).done.looked; counts = (e i).done.counts; words = a i; deltas = b i };
        hasher = (e i).hasher;
      }

module _ (lw ld uw ud : List ℕ) (g : Growing) (k : ℕ) where
  -- an outcome, said with the half in use by a name of its own
  by_half : Half → Outcome → HalvesLeft
  by_half x o =
      record {
        said = o.said;
        looked = o.looked;
        growing = record { table = record { hasher = g.table.hasher; live = o.counts.live }; size = g.size; half = x };
        left = four_after (half_of x) o lw ld uw ud;
      }

  by_half_is : (h : Half) → g.half ≡ h → (o : Outcome) → by_half h o ≡ halves_by o g lw ld uw ud
  unfolding by_half halves_by
  by_half_is h eh o = ap (λ (x : Half). by_half x o) (sym eh)

  module _ (e : are_halves lw ld uw ud && record_fits (size_in ld) g ≡ true) (r : RemoveAnswer) where
    -- a remove in the lower half
    pub removed_lower : (x : GrowingRemoveAnswer) → x ≡ removed_from r g.size g.half → g.half ≡ Lower → (lw' : List ℕ)
        → remove_left r lw' ld ≡ left_by (remove (lent (take (3 * g.size) lw) (take (2 * g.size) ld) g.table) k) g.table lw ld
        → remove_halves_left x lw' ld uw ud ≡ remove_rule lw ld uw ud g k
    unfolding by_half done_by
    removed_lower x ex eh lw' el =
        let p = el ∙ ap (λ (o : Outcome). left_by o g.table lw ld) (front_remove lw ld uw ud g e Lower eh k) in
        let q : remove_halves_left (removed_from r g.size Lower) lw' ld uw ud ≡ by_half Lower (remove (in_use (lent_halves lw ld uw ud g)) k) = λ i. record {
          said = (p i).done.said;
          looked = (p i).done.looked;
          growing = record { table = record { hasher = (p i).hasher; live = (p i).done.counts.live }; size = g.size; half = Lower };
          left = four (p i).done.words (p i).done.deltas uw ud;
        } in
        ap (λ (y : GrowingRemoveAnswer). remove_halves_left y lw' ld uw ud) (ex ∙ ap (removed_from r g.size) eh) ∙ q ∙ by_half_is Lower eh (remove (in_use (lent_halves lw ld uw ud g)) k)

    pub removed_upper : (x : GrowingRemoveAnswer) → x ≡ removed_from r g.size g.half → g.half ≡ Upper → (uw' : List ℕ)
        → remove_left r uw' ud ≡ left_by (remove (lent (take (3 * g.size) uw) (take (2 * g.size) ud) g.table) k) g.table uw ud
        → remove_halves_left x lw ld uw' ud ≡ remove_rule lw ld uw ud g k
    unfolding by_half done_by
    removed_upper x ex eh uw' el =
        let p = el ∙ ap (λ (o : Outcome). left_by o g.table uw ud) (front_remove lw ld uw ud g e Upper eh k) in
        let q : remove_halves_left (removed_from r g.size Upper) lw ld uw' ud ≡ by_half Upper (remove (in_use (lent_halves lw ld uw ud g)) k) = λ i. record {
          said = (p i).done.said;
          looked = (p i).done.looked;
          growing = record { table = record { hasher = (p i).hasher; live = (p i).done.counts.live }; size = g.size; half = Upper };
          left = four lw ld (p i).done.words (p i).done.deltas;
        } in
        ap (λ (y : GrowingRemoveAnswer). remove_halves_left y lw ld uw' ud) (ex ∙ ap (removed_from r g.size) eh) ∙ q ∙ by_half_is Upper eh (remove (in_use (lent_halves lw ld uw ud g)) k)

  -- 1 leaves all
  pub remove_kept : are_halves lw ld uw ud && record_fits (size_in ld) g ≡ false → record { said = refused 1 []; looked = 0; growing = g; left = four lw ld uw ud } ≡ remove_rule lw ld uw ud g k
  unfolding halves_by
  remove_kept e =
      left_half g.half
      ∙ ap (λ (o : Outcome). halves_by o g lw ld uw ud) (sym (remove_shape (in_use (lent_halves lw ld uw ud g)) k (shape_fails lw ld uw ud g e)))
    where
      left_half : (h : Half) → ◌≡◌ {A = HalvesLeft} (record { said = refused 1 []; looked = 0; growing = g; left = four lw ld uw ud }) (record { said = refused 1 []; looked = 0; growing = g; left = four_after (half_of h) (leave (refused 1 []) 0 (counts_of g.table.live)) lw ld uw ud })
      left_half Lower = refl
      left_half Upper = refl
