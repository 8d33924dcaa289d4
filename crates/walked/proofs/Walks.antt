-- Stepping from the start hands back each live cell once, in index order, and then says the end. Assumes nothing.
use mathlib.Core.Bool.{Bool, true, false, cond}
use mathlib.Core.List.{List, [], ◌∷◌, ◌++◌, map}
use mathlib.Core.Path.{◌≡◌, refl, sym, ap, ◌∙◌}
use Prim.Native.Nat.{ℕ, zero, suc, ◌+◌, ◌-◌, ◌≤◌, ◌<◌}
use native.Mathlib.Omega.{arith}
use lib.ListN.{length, replicate}
use Rattle.rules.specs.Cells.{Lent, is_live, shape}
use Rattle.rules.specs.Cursor.{start, StepSaid, end}
use Rattle.rules.specs.Sound.{count}
use Rattle.sound.specs.State.{SoundTable}
use Rattle.sound.proofs.Counts.{count_most}
use Rattle.hashiter.proofs.Stepping.{step_over, step_live, step_past, step_passed}
use Rattle.walked.specs.Walked.{says, until_end, walked, numbers, passing, cell_at, live_from, live_cells}
use Rattle.walked.proofs.Counted.{live_cells_counted, sound_live_cells}

module _ (l : Lent) (a : shape l ≡ 0) where
  abbrev live : ℕ → Bool
  live = is_live l.params l.cells l.value

  -- the live cells among n from index i on
  abbrev among : (n i : ℕ) → List StepSaid
  among n i = map (cell_at l) (passing live (numbers n i))

  -- from S on every step says the end
  over : (m i : ℕ) → l.params.S ≤ i → says l m i ≡ replicate {A = StepSaid} m end
  unfolding says
  over zero i u = refl
  over (suc m) i u =
      rw (sym (step_passed l i a) ∙ step_over l.params l.cells l.value i u) (ap (λ (t : List StepSaid). end ∷ t) (over m i u))

  -- a cell that is not live changes nothing
  skip : (m i : ℕ) → i < l.params.S → live i ≡ false → says l m i ≡ says l m (i + 1)
  unfolding says
  skip zero i u e = refl
  skip (suc m) i u e =
      rw (sym (step_passed l i a) ∙ step_past l.params l.cells l.value i u e ∙ step_passed l (i + 1) a)

  -- a live cell is handed back
  hand : (m i : ℕ) → i < l.params.S → live i ≡ true → says l (suc m) i ≡ cell_at l i ∷ says l m (i + 1)
  unfolding says
  hand m i u e = rw (sym (step_passed l i a) ∙ step_live l.params l.cells l.value i u e)

  says_among : (n i m : ℕ) → l.params.S - i ≡ n → says l (length (among n i) + m) i ≡ among n i ++ replicate {A = StepSaid} m end
  unfolding numbers passing
  says_among zero i m e = ap (λ (x : ℕ). says l x i) (omega arith) ∙ over m i (omega arith)
  says_among (suc n) i m e = go (live i) refl (says_among n (i + 1) m (omega arith))
    where
      go : (b : Bool) → live i ≡ b → says l (length (among n (i + 1)) + m) (i + 1) ≡ among n (i + 1) ++ replicate {A = StepSaid} m end
          → says l (length (map (cell_at l) (cond {A = List ℕ} b (i ∷ passing live (numbers n (i + 1))) (passing live (numbers n (i + 1))))) + m) i
          ≡ map (cell_at l) (cond {A = List ℕ} b (i ∷ passing live (numbers n (i + 1))) (passing live (numbers n (i + 1)))) ++ replicate {A = StepSaid} m end
      go true t ih =
          ap (λ (x : ℕ). says l x i) (omega arith)
          ∙ hand (length (among n (i + 1)) + m) i (omega arith) t ∙ ap (λ (x : List StepSaid). cell_at l i ∷ x) ih
      go false t ih = skip (length (among n (i + 1)) + m) i (omega arith) t ∙ ih

  -- from any position on: so many steps as there are live cells left hand them back in index order, and m more say the end
  pub says_live_then_end : (position m : ℕ) → says l (length (live_from l position) + m) position ≡ live_from l position ++ replicate {A = StepSaid} m end
  says_live_then_end position m = says_among (l.params.S - position) position m refl

  -- the steps beyond the last live cell hand nothing back
  until_cells : (is : List ℕ) (m : ℕ) → until_end (map (cell_at l) is ++ replicate {A = StepSaid} m end) ≡ map (cell_at l) is
  until_cells [] zero = refl
  until_cells [] (suc m) = refl
  until_cells (i ∷ is) m = ap (λ (t : List StepSaid). cell_at l i ∷ t) (until_cells is m)

  -- stepping until the end hands back the live cells from the position on, however many steps more are allowed
  pub steps_hand_all : (n position : ℕ) → length (live_from l position) ≤ n → until_end (says l n position) ≡ live_from l position
  steps_hand_all n position u =
      let d = n - length (live_from l position) in
      let e : n ≡ length (live_from l position) + d = omega arith in
      ap (λ (x : ℕ). until_end (says l x position)) e ∙ ap until_end (says_live_then_end position d) ∙ until_cells (passing live (numbers (l.params.S - position) position)) d

  -- a table walked from the start gives its live cells, each once, in index order
  pub walked_all : walked l ≡ live_cells l
  walked_all = steps_hand_all (l.params.S + 1) start (omega (arith, live_cells_counted l, count_most live l.params.S))

  -- and the step after them says the end
  pub walked_then_end : says l (length (live_cells l) + 1) start ≡ live_cells l ++ (end ∷ [])
  walked_then_end = says_live_then_end start 1

  -- they are so many as the count of rule 8 says
  pub walked_counted : length (walked l) ≡ count (is_live l.params l.cells l.value) l.params.S
  walked_counted = ap length walked_all ∙ live_cells_counted l

  -- so live, in a sound table
  pub sound_walked_live : SoundTable l → length (walked l) ≡ l.counts.live
  sound_walked_live s = ap length walked_all ∙ sound_live_cells l s
