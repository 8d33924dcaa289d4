-- A refused call leaves all four slices and the record; a remove leaves the other half in any case. Assumes nothing.
use mathlib.Core.Bool.{Bool, true, false, cond, ◌&&◌}
use mathlib.Core.List.{List}
use mathlib.Core.Path.{◌≡◌, refl}
use Prim.Native.Nat.{ℕ}
use Rattle.hashers.specs.declared.Hasher.{Hasher}
use Rattle.rules.specs.Growing as rule
use Rattle.rules.specs.Growing.{lower, upper, in_use, other_half}
use Rattle.rules.specs.Answers.{refused, nothing, Outcome}
use Rattle.rules.specs.Calls.{remove}
use Rattle.cells.specs.Layout.{size_in, fresh_words, fresh_deltas}
use Rattle.laws.proofs.Refusals.{remove_refused_leaves}
use Rattle.parts.specs.Halves.{half_of, of_half, are_halves, size_fits, lent_halves}
use Rattle.halves.specs.Answers.{Four, four, four_after, HalvesCleared, cleared, refuses, fresh_growing, clear_halves_rule, halves_by, remove_rule}
use Rattle.parts.specs.declared.Growing.{Growing}

module _ (lw ld uw ud : List ℕ) where
  -- a change that is nothing leaves all four
  none_left : (h : rule.Half) (o : Outcome) → o.change ≡ nothing → four_after h o lw ld uw ud ≡ four lw ld uw ud
  none_left lower o e = rw e
  none_left upper o e = rw e

  -- a remove that is refused leaves all
  pub refused_remove_leaves : (g : Growing) (k n : ℕ) (l : List ℕ) → (remove_rule lw ld uw ud g k).said ≡ refused n l
      → ((remove_rule lw ld uw ud g k).left ≡ four lw ld uw ud) × ((remove_rule lw ld uw ud g k).growing ≡ g)
  unfolding halves_by
  refused_remove_leaves g k n l e =
      let s = remove_refused_leaves n l (in_use (lent_halves lw ld uw ud g)) k e in (
        none_left (half_of g.half) (remove (in_use (lent_halves lw ld uw ud g)) k) s.change,
        λ i. record { table = record { hasher = g.table.hasher; live = (s.counts i).live }; size = g.size; half = g.half },
      )

  -- any remove leaves the other half
  pub remove_leaves_other : (g : Growing) (k : ℕ) → let r = (remove_rule lw ld uw ud g k).left in
      let other = other_half (half_of g.half) in
      (of_half other r.lower_words r.upper_words ≡ of_half other lw uw) × (of_half other r.lower_deltas r.upper_deltas ≡ of_half other ld ud)
  unfolding halves_by
  remove_leaves_other g k = go (half_of g.half)
    where
      o : Outcome
      o = remove (in_use (lent_halves lw ld uw ud g)) k

      go : (h : rule.Half) → (of_half (other_half h) (four_after h o lw ld uw ud).lower_words (four_after h o lw ld uw ud).upper_words ≡ of_half (other_half h) lw uw)
          × (of_half (other_half h) (four_after h o lw ld uw ud).lower_deltas (four_after h o lw ld uw ud).upper_deltas ≡ of_half (other_half h) ld ud)
      go lower = (refl, refl)
      go upper = (refl, refl)

  -- a clearing that is refused leaves all
  pub refused_clear_leaves : (size : ℕ) (hasher : Hasher) (n : ℕ) → (clear_halves_rule lw ld uw ud size hasher).said ≡ refuses n
      → (clear_halves_rule lw ld uw ud size hasher).left ≡ four lw ld uw ud
  unfolding clear_halves_rule
  refused_clear_leaves size hasher n e =
      let C = size_in ld in
      go (are_halves lw ld uw ud && size_fits C size) (fresh_growing size hasher) (four (fresh_words C) (fresh_deltas C) (fresh_words C) (fresh_deltas C)) e
    where
      go : (b : Bool) (x : Growing) (f : Four)
          → (cond {A = HalvesCleared} b (record { said = cleared x; left = f }) (record { said = refuses 1; left = four lw ld uw ud })).said ≡ refuses n
          → (cond {A = HalvesCleared} b (record { said = cleared x; left = f }) (record { said = refuses 1; left = four lw ld uw ud })).left ≡ four lw ld uw ud
      go true x f e = cc
      go false x f e = refl
