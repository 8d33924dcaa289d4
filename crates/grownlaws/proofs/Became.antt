-- What becomes of a half's slices is what becomes of what they hold. Assumes nothing.
use mathlib.Core.Bool.{true, false}
use mathlib.Core.List.{List}
use mathlib.Core.Path.{◌≡◌, refl, sym, ap, ◌∙◌}
use Prim.Native.Nat.{ℕ, ◌*◌}
use native.Mathlib.Omega.{arith}
use lib.ListN.{length, length-replicate}
use Rattle.rules.specs.Sizes.{is_size}
use Rattle.rules.specs.Moves.{Held, Became, stays, cleared}
use Rattle.rules.specs.Growing as rule
use Rattle.cells.specs.Layout.{fresh_words, fresh_deltas}
use Rattle.cells.proofs.Clearing.{fresh_length}
use Rattle.moving.specs.Slices.{held_in, clear_held, words_become, deltas_become}
use Rattle.moving.proofs.Held.{WithinAll, held_changed_all, words_kept_all, deltas_kept_all, fresh_shaped}
use Rattle.parts.specs.Halves.{of_half}
use Rattle.growth.specs.Growth.{lower_of, upper_of}
use Rattle.movelaws.specs.Plain.{held_become}
use Rattle.growthlaws.specs.Grown.{is_cleared}
use Rattle.grownlaws.proofs.Within.{changes_of}

-- ---- slices of C cells

module _ (C : ℕ) where
  pub words_length : (u : Became) (ws : List ℕ) → length ws ≡ 3 * C → length (words_become C u ws) ≡ length ws
  words_length (stays l) ws e = words_kept_all l ws
  words_length (cleared l) ws e = words_kept_all l (fresh_words C) ∙ fresh_length C ∙ sym e

  pub deltas_length : (u : Became) (ds : List ℕ) → length ds ≡ 2 * C → length (deltas_become C u ds) ≡ length ds
  deltas_length (stays l) ds e = deltas_kept_all l ds
  deltas_length (cleared l) ds e = deltas_kept_all l (fresh_deltas C) ∙ length-replicate (2 * C) 0 ∙ sym e

  pub held_become_lem : (ws ds : List ℕ) → is_size C ≡ true → length ws ≡ 3 * C → length ds ≡ 2 * C → (u : Became) → WithinAll C (changes_of u)
      → held_in (words_become C u ws) (deltas_become C u ds) ≡ held_become (clear_held C) u (held_in ws ds)
  held_become_lem ws ds s a b (stays l) w = held_changed_all {T = C} l ws ds (record { size = s; words = omega arith; deltas = omega arith }) w
  held_become_lem ws ds s a b (cleared l) w = held_changed_all {T = C} l (fresh_words C) (fresh_deltas C) (fresh_shaped C C s (omega arith)) w

-- ---- by the halves

pub same_lower : (h : rule.Half) (b : Became) → lower_of h b b ≡ b
same_lower rule.lower b = refl
same_lower rule.upper b = refl

pub same_upper : (h : rule.Half) (b : Became) → upper_of h b b ≡ b
same_upper rule.lower b = refl
same_upper rule.upper b = refl

module _ (C : ℕ) (lw ld uw ud : List ℕ) where
  abbrev held_at : rule.Half → Held
  held_at h = held_in (of_half h lw uw) (of_half h ld ud)

  -- a half that was cleared does not show which one it was
  which : (u : Became) (h h₀ : rule.Half) → (is_cleared u ≡ false → h ≡ h₀) → held_become (clear_held C) u (held_at h) ≡ held_become (clear_held C) u (held_at h₀)
  which (stays l) h h₀ q = ap (λ (x : rule.Half). held_become (clear_held C) (stays l) (held_at x)) (q refl)
  which (cleared l) h h₀ q = refl

  -- the half in use at the end holds what became of the one that was in use at the start, or of a cleared one
  pub used_holds : (h h₀ : rule.Half) (u spare : Became)
      → ((x : rule.Half) → held_in (words_become C u (of_half x lw uw)) (deltas_become C u (of_half x ld ud)) ≡ held_become (clear_held C) u (held_in (of_half x lw uw) (of_half x ld ud)))
      → (is_cleared u ≡ false → h ≡ h₀)
      → held_in (of_half h (words_become C (lower_of h u spare) lw) (words_become C (upper_of h u spare) uw))
      (of_half h (deltas_become C (lower_of h u spare) ld) (deltas_become C (upper_of h u spare) ud))
      ≡ held_become (clear_held C) u (held_in (of_half h₀ lw uw) (of_half h₀ ld ud))
  used_holds rule.lower h₀ u spare p q = p rule.lower ∙ which u rule.lower h₀ q
  used_holds rule.upper h₀ u spare p q = p rule.upper ∙ which u rule.upper h₀ q
