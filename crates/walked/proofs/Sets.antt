-- Setting a value: what each answer means, and that it touches the state of the cell's key alone. Assumes nothing.
use mathlib.Core.List.{List}
use mathlib.Core.Logic.{◌≢◌, ◌↔◌}
use mathlib.Core.Path.{◌≡◌, refl, sym, ap, ◌∙◌}
use Prim.Native.Nat.{ℕ, ◌<◌}
use native.Mathlib.Omega.{arith}
use Rattle.rules.specs.Cells.{Lent, shape}
use Rattle.rules.specs.Answers.{Said, absent, replaced, refused, Outcome, leave}
use Rattle.rules.specs.Cursor.{set_value}
use Rattle.laws.specs.Left.{Leaves}
use Rattle.sound.specs.State.{live_cell, state_with, state_of, after, SoundTable}
use Rattle.sound.proofs.Filling.{changed_own}
use Rattle.sound.proofs.Keeping.{setting_keeps_sound}
use Rattle.sound.proofs.States.{state_live, state_of_cell, stored_others, live_both}
use Rattle.walked.specs.Ways as ways
use Rattle.walked.specs.Ways.{NotLive, SetWay, Sets}
use Rattle.walked.proofs.Ways.{set_way}

module _ (l : Lent) (i v : ℕ) where
  -- Replaced exactly where the checks let it past and the cell is live; with the value that was there
  pub set_replaced_exactly : (old : ℕ) → ((set_value l i v).said ≡ replaced old) ↔ Sets l i v old
  set_replaced_exactly old = (there (set_value l i v) (set_way l i v), back (set_value l i v) (set_way l i v))
    where
      there : (o : Outcome) → SetWay l i v o → o.said ≡ replaced old → Sets l i v old
      there o (ways.by1 a e) q = let z : ◌≡◌ {A = ℕ} 0 1 = cc in absurd (omega arith)
      there o (ways.by1_index a u e) q = let z : ◌≡◌ {A = ℕ} 0 1 = cc in absurd (omega arith)
      there o (ways.by3 a u n e) q = let z : ◌≡◌ {A = ℕ} 0 1 = cc in absurd (omega arith)
      there o (ways.lacks a u n t e) q = let z : ◌≡◌ {A = ℕ} 0 1 = cc in absurd (omega arith)
      there o (ways.sets a u n t e) q = record { passed = a; below = u; value = n; live = t; was = cc }

      back : (o : Outcome) → SetWay l i v o → Sets l i v old → o.said ≡ replaced old
      back o (ways.by1 a e) s = absurd (omega (arith, s.passed))
      back o (ways.by1_index a u e) s = absurd (omega (arith, s.below))
      back o (ways.by3 a u n e) s = absurd (s.value n)
      back o (ways.lacks a u n t e) s = let z : ◌≡◌ {A = ℕ} 0 1 = cc s.live in absurd (omega arith)
      back o (ways.sets a u n t e) s = ap (λ (o : Outcome). o.said) e ∙ ap replaced (sym s.was)

  -- Absent exactly where they let it past and the cell is not live
  pub set_absent_exactly : ((set_value l i v).said ≡ absent) ↔ ((shape l ≡ 0) × (i < l.params.S) × (v ≢ l.params.null) × NotLive l i)
  set_absent_exactly = (there (set_value l i v) (set_way l i v), back (set_value l i v) (set_way l i v))
    where
      there : (o : Outcome) → SetWay l i v o → o.said ≡ absent → (shape l ≡ 0) × (i < l.params.S) × (v ≢ l.params.null) × NotLive l i
      there o (ways.by1 a e) q = let z : ◌≡◌ {A = ℕ} 0 1 = cc in absurd (omega arith)
      there o (ways.by1_index a u e) q = let z : ◌≡◌ {A = ℕ} 0 1 = cc in absurd (omega arith)
      there o (ways.by3 a u n e) q = let z : ◌≡◌ {A = ℕ} 0 1 = cc in absurd (omega arith)
      there o (ways.lacks a u n t e) q = (a, u, n, t)
      there o (ways.sets a u n t e) q = let z : ◌≡◌ {A = ℕ} 0 1 = cc in absurd (omega arith)

      back : (o : Outcome) → SetWay l i v o → (shape l ≡ 0) × (i < l.params.S) × (v ≢ l.params.null) × NotLive l i → o.said ≡ absent
      back o (ways.by1 a e) s = absurd (omega (arith, s.0))
      back o (ways.by1_index a u e) s = absurd (omega (arith, s.1))
      back o (ways.by3 a u n e) s = absurd (s.2 n)
      back o (ways.lacks a u n t e) s = ap (λ (o : Outcome). o.said) e
      back o (ways.sets a u n t e) s = let z : ◌≡◌ {A = ℕ} 0 1 = cc s.3 in absurd (omega arith)

  left : (s : Said) (o : Outcome) → o ≡ leave s 0 l.counts → Leaves l.counts o
  left s o e = rw e (record { change = refl; counts = refl })

  -- an answer other than Replaced leaves all
  pub set_leaves : ((old : ℕ) → (set_value l i v).said ≢ replaced old) → Leaves l.counts (set_value l i v)
  set_leaves f = go (set_value l i v) (set_way l i v) f
    where
      go : (o : Outcome) → SetWay l i v o → ((old : ℕ) → o.said ≢ replaced old) → Leaves l.counts o
      go o (ways.by1 a e) f = left _ o e
      go o (ways.by1_index a u e) f = left _ o e
      go o (ways.by3 a u n e) f = left _ o e
      go o (ways.lacks a u n t e) f = left _ o e
      go o (ways.sets a u n t e) f = absurd (f (l.value i) (ap (λ (o : Outcome). o.said) e))

  -- so a refusal
  pub set_refused_leaves : (n : ℕ) (x : List ℕ) → (set_value l i v).said ≡ refused n x → Leaves l.counts (set_value l i v)
  set_refused_leaves n x q = set_leaves (λ old y. let z : ◌≡◌ {A = ℕ} 0 1 = cc in omega arith)

  -- and Absent
  pub set_absent_leaves : (set_value l i v).said ≡ absent → Leaves l.counts (set_value l i v)
  set_absent_leaves q = set_leaves (λ old y. let z : ◌≡◌ {A = ℕ} 0 1 = cc in omega arith)

  -- live stays, by every answer
  pub set_keeps_counts : (set_value l i v).counts ≡ l.counts
  set_keeps_counts = go (set_value l i v) (set_way l i v)
    where
      go : (o : Outcome) → SetWay l i v o → o.counts ≡ l.counts
      go o (ways.by1 a e) = rw e
      go o (ways.by1_index a u e) = rw e
      go o (ways.by3 a u n e) = rw e
      go o (ways.lacks a u n t e) = rw e
      go o (ways.sets a u n t e) = rw e

  -- the state of every key but the cell's stays, on any table
  pub set_others : (q : ℕ) → q ≢ l.cells.key i → state_of (after l (set_value l i v)) q ≡ state_of l q
  set_others q d = go (set_value l i v) (set_way l i v)
    where
      go : (o : Outcome) → SetWay l i v o → state_of (after l o) q ≡ state_of l q
      go o (ways.by1 a e) = rw e
      go o (ways.by1_index a u e) = rw e
      go o (ways.by3 a u n e) = rw e
      go o (ways.lacks a u n t e) = rw e
      go o (ways.sets a u n t e) = rw e (stored_others l.params l.cells l.value (l.cells.key i) q d i v refl)

  module _ (s : SoundTable l) where
    -- a setting keeps a table sound, by every answer
    pub set_keeps_sound : SoundTable (after l (set_value l i v))
    set_keeps_sound = go (set_value l i v) (set_way l i v)
      where
        go : (o : Outcome) → SetWay l i v o → SoundTable (after l o)
        go o (ways.by1 a e) = rw e s
        go o (ways.by1_index a u e) = rw e s
        go o (ways.by3 a u n e) = rw e s
        go o (ways.lacks a u n t e) = rw e s
        go o (ways.sets a u n t e) =
            let h = live_both l.params l.cells l.value i t in
            rw e (setting_keeps_sound l.params l.cells l.value l.counts s i u h.0 h.1 v n)

    -- where it replaces, the cell's key was live with the old value, and is live with the new one
    pub set_own_before : (old : ℕ) → (set_value l i v).said ≡ replaced old → state_of l (l.cells.key i) ≡ live_cell old
    set_own_before old q =
        let r = (set_replaced_exactly old).0 q in
        let h = live_both l.params l.cells l.value i r.live in
        state_of_cell l.params l.cells l.value l.counts s (l.cells.key i) i r.below h.0 refl
        ∙ state_live l.params.null (l.value i) h.1 ∙ ap live_cell (sym r.was)

    pub set_own : (old : ℕ) → (set_value l i v).said ≡ replaced old → state_of (after l (set_value l i v)) (l.cells.key i) ≡ live_cell v
    set_own old q = go (set_value l i v) (set_way l i v) q set_keeps_sound
      where
        go : (o : Outcome) → SetWay l i v o → o.said ≡ replaced old → SoundTable (after l o) → state_of (after l o) (l.cells.key i) ≡ live_cell v
        go o (ways.by1 a e) q r = let z : ◌≡◌ {A = ℕ} 0 1 = cc in absurd (omega arith)
        go o (ways.by1_index a u e) q r = let z : ◌≡◌ {A = ℕ} 0 1 = cc in absurd (omega arith)
        go o (ways.by3 a u n e) q r = let z : ◌≡◌ {A = ℕ} 0 1 = cc in absurd (omega arith)
        go o (ways.lacks a u n t e) q r = let z : ◌≡◌ {A = ℕ} 0 1 = cc in absurd (omega arith)
        go o (ways.sets a u n t e) q r =
            let h = live_both l.params l.cells l.value i t in
            let r = rw e at r in
            rw e
            (state_of_cell l.params l.cells _ l.counts r (l.cells.key i) i u h.0 refl
            ∙ ap (λ (x : ℕ). state_with l.params.null x) (changed_own i v l.value)
            ∙ state_live l.params.null v n)
