-- A step hands back one cell: the least live index not below the cursor, with the cursor past it. Assumes nothing.
use mathlib.Core.Logic.{◌↔◌}
use mathlib.Core.Path.{◌≡◌, sym, ap, ◌∙◌}
use Prim.Native.Nat.{ℕ, ◌+◌, ◌<◌, max}
use native.Mathlib.Decide.{ℕ_discrete}
use native.Mathlib.Omega.{arith}
use Rattle.rules.specs.Cells.{Lent, shape}
use Rattle.rules.specs.Cursor.{next, end, refusal, Step, step}
use Rattle.walked.specs.Ways as ways
use Rattle.walked.specs.Ways.{Live, NotLive, Least, NoneFrom, StepWay, Hands}
use Rattle.walked.proofs.Ways.{step_way}

-- live and not live are apart
never_both : (l : Lent) (i : ℕ) → Live l i → NotLive l i → ⊥
never_both l i a b = let z : ◌≡◌ {A = ℕ} 0 1 = cc in omega arith

-- there is one least live index
pub least_one : (l : Lent) (position i j : ℕ) → Least l position i → Least l position j → i ≡ j
least_one l position i j a b = go (ℕ_discrete i j)
  where
    below : i < j → ⊥
    below u = never_both l i a.live (b.least i a.from u)

    above : j < i → ⊥
    above u = never_both l j b.live (a.least j b.from u)

    go : Dec (i ≡ j) → i ≡ j
    go (yes q) = q
    go (no q) = absurd (below (by (λ u. above u)))
      where
        by : (j < i → ⊥) → i < j
        by n = omega arith

module _ (l : Lent) (position : ℕ) where
  module _ (i k v : ℕ) where
    -- exactly that cell is handed back
    pub step_next_exactly : ((step l position).said ≡ next i k v) ↔ Hands l position i k v
    step_next_exactly = (there (step l position) (step_way l position), back (step l position) (step_way l position))
      where
        there : (s : Step) → StepWay l position s → s.said ≡ next i k v → Hands l position i k v
        there s (ways.by1 a e) q = let z : ◌≡◌ {A = ℕ} 0 1 = cc in absurd (omega arith)
        there s (ways.yields a j m e) q =
            let x : j ≡ i = cc in
            let y : l.cells.key j ≡ k = cc in
            let w : l.value j ≡ v = cc in
            record { passed = a; least = rw x at m; key = sym y ∙ ap l.cells.key x; value = sym w ∙ ap l.value x }
        there s (ways.ends a m e) q = let z : ◌≡◌ {A = ℕ} 0 1 = cc in absurd (omega arith)

        back : (s : Step) → StepWay l position s → Hands l position i k v → s.said ≡ next i k v
        back s (ways.by1 a e) h = absurd (omega (arith, h.passed))
        back s (ways.yields a j m e) h =
            let x = least_one l position j i m h.least in
            rw (h.key, h.value) (ap (λ (t : Step). t.said) e ∙ ap (λ (n : ℕ). next n (l.cells.key n) (l.value n)) x)
        back s (ways.ends a m e) h = absurd (never_both l i h.least.live (m i h.least.from h.least.below))

    -- and the cursor is past it
    pub step_next_past : (step l position).said ≡ next i k v → (step l position).position ≡ i + 1
    step_next_past q = go (step l position) (step_way l position) q
      where
        go : (s : Step) → StepWay l position s → s.said ≡ next i k v → s.position ≡ i + 1
        go s (ways.by1 a e) q = let z : ◌≡◌ {A = ℕ} 0 1 = cc in absurd (omega arith)
        go s (ways.yields a j m e) q = let x : j ≡ i = cc in ap (λ (t : Step). t.position) e ∙ ap (λ (n : ℕ). n + 1) x
        go s (ways.ends a m e) q = let z : ◌≡◌ {A = ℕ} 0 1 = cc in absurd (omega arith)

  -- the end is said exactly where no cell from the cursor on is live
  pub step_end_exactly : ((step l position).said ≡ end) ↔ ((shape l ≡ 0) × NoneFrom l position)
  step_end_exactly = (there (step l position) (step_way l position), back (step l position) (step_way l position))
    where
      there : (s : Step) → StepWay l position s → s.said ≡ end → (shape l ≡ 0) × NoneFrom l position
      there s (ways.by1 a e) q = let z : ◌≡◌ {A = ℕ} 0 1 = cc in absurd (omega arith)
      there s (ways.yields a j m e) q = let z : ◌≡◌ {A = ℕ} 0 1 = cc in absurd (omega arith)
      there s (ways.ends a m e) q = (a, m)

      back : (s : Step) → StepWay l position s → (shape l ≡ 0) × NoneFrom l position → s.said ≡ end
      back s (ways.by1 a e) h = absurd (omega (arith, h.0))
      back s (ways.yields a j m e) h = absurd (never_both l j m.live (h.1 j m.from m.below))
      back s (ways.ends a m e) h = ap (λ (t : Step). t.said) e

  -- the cursor then stands at S, or stays where it is beyond S
  pub step_end_stays : (step l position).said ≡ end → (step l position).position ≡ max position l.params.S
  step_end_stays q = go (step l position) (step_way l position) q
    where
      go : (s : Step) → StepWay l position s → s.said ≡ end → s.position ≡ max position l.params.S
      go s (ways.by1 a e) q = let z : ◌≡◌ {A = ℕ} 0 1 = cc in absurd (omega arith)
      go s (ways.yields a j m e) q = let z : ◌≡◌ {A = ℕ} 0 1 = cc in absurd (omega arith)
      go s (ways.ends a m e) q = ap (λ (t : Step). t.position) e

  -- a refusal is 1, given by check 1 alone, and leaves the cursor
  pub step_refused : (n : ℕ) → (step l position).said ≡ refusal n → (n ≡ 1) × (shape l ≡ 1) × ((step l position).position ≡ position)
  step_refused n q = go (step l position) (step_way l position) q
    where
      go : (s : Step) → StepWay l position s → s.said ≡ refusal n → (n ≡ 1) × (shape l ≡ 1) × (s.position ≡ position)
      go s (ways.by1 a e) q = (cc, a, ap (λ (t : Step). t.position) e)
      go s (ways.yields a j m e) q = let z : ◌≡◌ {A = ℕ} 0 1 = cc in absurd (omega arith)
      go s (ways.ends a m e) q = let z : ◌≡◌ {A = ℕ} 0 1 = cc in absurd (omega arith)
