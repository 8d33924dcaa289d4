-- What a probe's hit tells of the cells of its window. Assumes nothing.
use mathlib.Core.Bool.{Bool, true, false, cond}
use mathlib.Core.List.{[], ◌∷◌}
use mathlib.Core.Logic.{◌≢◌}
use mathlib.Core.Path.{◌≡◌, refl, subst}
use Prim.Native.Nat.{ℕ, zero, suc, ◌+◌, ◌%◌, ◌≤◌, ◌<◌}
use native.Mathlib.Decide.{ℕ_discrete}
use native.Mathlib.Omega.{arith}
use borrow.Author.Tests.{eqb-true, eqb-false}
use lib.Dec.{eqb}
use Rattle.rules.specs.Sizes.{window}
use Rattle.rules.specs.Cells.{Cells}
use Rattle.rules.specs.Walk.{on, Hit, free, none, Probe, probe, probe_from}
use Rattle.laws.specs.Full.{WindowTaken}

module _ (S : ℕ) (hash : ℕ → ℕ) (p : ℕ) where
  abbrev Taken : ℕ → Type 0
  Taken d = hash (on p d % S) ≢ 0

  -- of n positions from distance d on: the first empty cell, or all are taken
  abbrev Finds : (n d : ℕ) → Hit → Type 0
  Finds n d (free m) = (d ≤ m) × (m < d + n) × (hash (on p m % S) ≡ 0) × ((e : ℕ) → d ≤ e → e < m → Taken e)
  Finds n d none = (e : ℕ) → d ≤ e → e < d + n → Taken e

  -- taken at distance d, and from d + 1 on
  before : (d e : ℕ) → Taken d → d ≤ e → (d + 1 ≤ e → Taken e) → Taken e
  before d e t l f = go (ℕ_discrete d e)
    where
      go : Dec (d ≡ e) → Taken e
      go (yes q) = subst (λ (x : ℕ). Taken x) q t
      go (no q) = f (omega arith)

  -- one taken cell more in front
  finds_on : (n d : ℕ) (x : Hit) → Taken d → Finds n (d + 1) x → Finds (suc n) d x
  finds_on n d (free m) t f =
      (omega (arith, f.0), omega (arith, f.1), f.2, λ e l u. before d e t l (λ l'. f.3 e l' u))
  finds_on n d none t f = λ e l u. before d e t l (λ l'. f e l' (omega arith))

  -- the cell at distance d is looked at first
  look : (n d : ℕ) (w : Probe) (b : Bool) → eqb (hash (on p d % S)) 0 ≡ b → Finds n (d + 1) w.hit
      → Finds (suc n) d (cond {A = Probe} b (record { seen = on p d ∷ []; hit = free d }) (record { seen = on p d ∷ w.seen; hit = w.hit })).hit
  look n d w true e f = (omega arith, omega arith, eqb-true _ _ e, λ x l u. absurd (omega arith))
  look n d w false e f = finds_on n d w.hit (eqb-false _ _ e) f

  probe_finds : (n d : ℕ) → Finds n d (probe S hash p n d).hit
  unfolding probe
  probe_finds zero d = λ e l u. absurd (omega arith)
  probe_finds (suc n) d = look n d (probe S hash p n (d + 1)) (eqb (hash (on p d % S)) 0) refl (probe_finds n (d + 1))

module _ (S : ℕ) (cs : Cells) (t : ℕ) where
  window_finds : (x : Hit) → (probe_from S cs t).hit ≡ x → Finds S cs.hash t (window S) 1 x
  window_finds x e = subst (λ (x : Hit). Finds S cs.hash t (window S) 1 x) e (probe_finds S cs.hash t (window S) 1)

  -- a probe that found none found every cell of its window taken
  pub none_taken : (probe_from S cs t).hit ≡ none → WindowTaken S cs t
  none_taken e d l u = window_finds none e d l (omega arith)

  -- the cell found lies past the tail
  pub free_some : (d : ℕ) → (probe_from S cs t).hit ≡ free d → 1 ≤ d
  free_some d e = (window_finds (free d) e).0

  -- and no further than the window goes
  pub free_most : (d : ℕ) → (probe_from S cs t).hit ≡ free d → d ≤ window S
  free_most d e = omega (arith, (window_finds (free d) e).1)

  -- the cell found is empty
  pub free_empty : (d : ℕ) → (probe_from S cs t).hit ≡ free d → cs.hash (on t d % S) ≡ 0
  free_empty d e = (window_finds (free d) e).2

  -- and the cells before it are taken
  pub free_first : (d : ℕ) → (probe_from S cs t).hit ≡ free d → (e : ℕ) → 1 ≤ e → e < d → cs.hash (on t e % S) ≢ 0
  free_first d e = (window_finds (free d) e).3
