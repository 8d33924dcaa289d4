-- One turn of a step: at the end, at a live cell, past any other. Assumes nothing.
use mathlib.Core.Bool.{Bool, true, false}
use mathlib.Core.List.{List}
use mathlib.Core.Path.{◌≡◌, refl, sym, ◌∙◌}
use Prim.Native.Nat.{ℕ, suc, ◌+◌, ◌-◌, ◌≤◌, ◌<◌, max}
use native.Mathlib.Omega.{arith}
use Rattle.hashers.specs.declared.Hasher.{Hasher}
use Rattle.rules.specs.Cells.{Params, Cells, Lent, is_live, shape}
use Rattle.rules.specs.Cursor.{Next, at, none, first_from, next, end, refusal, step_to, step_in, step}
use Rattle.cells.specs.Layout.{params_of, view, key_in, value_in, live_in}

module _ (p : Params) (cs : Cells) (value : ℕ → ℕ) (i : ℕ) where
  -- from position S on it is the end, and the cursor stays
  pub step_over : p.S ≤ i → step_in p cs value i ≡ record { said = end; position = i }
  unfolding step_in first_from
  step_over u =
      let z : p.S - i ≡ 0 = omega arith in
      let m : max i p.S ≡ i = omega arith in
      rw (z, m)

  -- a live cell is handed back
  pub step_live : i < p.S → is_live p cs value i ≡ true → step_in p cs value i ≡ record { said = next i (cs.key i) (value i); position = i + 1 }
  unfolding step_in first_from
  step_live u t = let z : p.S - i ≡ suc (p.S - (i + 1)) = omega arith in rw (z, t)

  to_same : i < p.S → (x : Next) → step_to p.S cs value i x ≡ step_to p.S cs value (i + 1) x
  to_same u (at j) = refl
  to_same u none = let m : max i p.S ≡ max (i + 1) p.S = omega arith in rw m

  -- any other is passed
  pub step_past : i < p.S → is_live p cs value i ≡ false → step_in p cs value i ≡ step_in p cs value (i + 1)
  unfolding step_in first_from
  step_past u t = let z : p.S - i ≡ suc (p.S - (i + 1)) = omega arith in rw (z, t) (to_same u (first_from (is_live p cs value) (p.S - (i + 1)) (i + 1)))

module _ (l : Lent) (position : ℕ) where
  -- check 1 refuses, and the cursor stays
  pub step_shape : shape l ≡ 1 → record { said = refusal 1; position = position } ≡ step l position
  unfolding step
  step_shape e = rw e

  pub step_passed : shape l ≡ 0 → step_in l.params l.cells l.value position ≡ step l position
  unfolding step
  step_passed e = rw e

-- ---- the loop

-- what a step says from i on is what it says from the position given
pub record Going (ws : List ℕ) (S position i : ℕ) : Type 0 where
  pub same : (h : Hasher) (ds : List ℕ) → step_in (params_of S h) (view ws ds) (value_in ws) position ≡ step_in (params_of S h) (view ws ds) (value_in ws) i

pub going_start : (ws : List ℕ) (S position : ℕ) → Going ws S position position
going_start ws S position = record { same = λ h ds. refl }

module _ {ws : List ℕ} {S position i : ℕ} (g : Going ws S position i) where
  module _ (u : i < S) {b : Bool} (e : b ≡ live_in ws i) where
    pub going_live : b ≡ true → {k v : ℕ} → k ≡ key_in ws i → v ≡ value_in ws i → (h : Hasher) (ds : List ℕ)
        → record { said = next i k v; position = i + 1 } ≡ step_in (params_of S h) (view ws ds) (value_in ws) position
    going_live t ek ev h ds =
        (λ x. record { said = next i (ek x) (ev x); position = i + 1 })
        ∙ sym (g.same h ds ∙ step_live (params_of S h) (view ws ds) (value_in ws) i u (sym e ∙ t))

    pub going_past : b ≡ false → Going ws S position (i + 1)
    going_past t = record { same = λ h ds. g.same h ds ∙ step_past (params_of S h) (view ws ds) (value_in ws) i u (sym e ∙ t) }

  pub going_end : S ≤ i → {n : ℕ} → n ≡ i → (h : Hasher) (ds : List ℕ) → record { said = end; position = n } ≡ step_in (params_of S h) (view ws ds) (value_in ws) position
  going_end u e h ds = (λ x. record { said = end; position = e x }) ∙ sym (g.same h ds ∙ step_over (params_of S h) (view ws ds) (value_in ws) i u)
