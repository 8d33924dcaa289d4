-- Every step and every setting ends in one of its ways. Assumes nothing.
use mathlib.Core.Bool.{Bool, true, false, cond}
use mathlib.Core.Logic.{◌⊎◌, inl, inr}
use mathlib.Core.Path.{◌≡◌, refl, ap, ◌∙◌}
use Prim.Native.Nat.{ℕ, zero, suc, ◌+◌, ◌-◌, ◌≤◌, ◌<◌}
use native.Mathlib.Decide.{ℕ_discrete}
use native.Mathlib.Omega.{arith}
use borrow.Author.Tests.{ltb-true, ltb-false, eqb-true, eqb-false}
use lib.Dec.{eqb, ltb}
use Rattle.rules.specs.Cells.{Lent, is_live, shape}
use Rattle.rules.specs.Answers.{absent, replaced, store, Outcome, leave, unless}
use Rattle.rules.specs.Cursor.{Next, at, none, first_from, step_to, step_in, step_unless, step, set_at, set_value}
use Rattle.laws.proofs.Ways.{shape_says}
use Rattle.walked.specs.Ways as ways
use Rattle.walked.specs.Ways.{StepWay, SetWay}

-- ---- the first number that passes a test

-- what a search gives: the least that passes, or that none does
pub data Found (test : ℕ → Bool) (n i : ℕ) (x : Next) : Type 0 where
  first : (j : ℕ) → i ≤ j → j < i + n → test j ≡ true → ((k : ℕ) → i ≤ k → k < j → test k ≡ false) → x ≡ at j → Found test n i x
  missing : ((k : ℕ) → i ≤ k → k < i + n → test k ≡ false) → x ≡ none → Found test n i x

pub first_found : (test : ℕ → Bool) (n i : ℕ) → Found test n i (first_from test n i)
unfolding first_from
first_found test zero i = missing (λ k a b. absurd (omega arith)) refl
first_found test (suc n) i = go (test i) refl (first_found test n (i + 1))
  where
    own : (j : ℕ) → test i ≡ false → ((k : ℕ) → i + 1 ≤ k → k < j → test k ≡ false) → (k : ℕ) → i ≤ k → k < j → test k ≡ false
    own j e f k a b = by (ℕ_discrete k i)
      where
        by : Dec (k ≡ i) → test k ≡ false
        by (yes q) = ap test q ∙ e
        by (no q) = f k (omega arith) b

    go : (b : Bool) → test i ≡ b → Found test n (i + 1) (first_from test n (i + 1)) → Found test (suc n) i (cond {A = Next} b (at i) (first_from test n (i + 1)))
    go true e r = first i (omega arith) (omega arith) e (λ k a b. absurd (omega arith)) refl
    go false e (first j a b t f q) = first j (omega arith) (omega arith) t (own j e f) q
    go false e (missing f q) = missing (own (i + suc n) e (λ k a b. f k a (omega arith))) q

-- ---- a step

module _ (l : Lent) (position : ℕ) where
  abbrev live : ℕ → Bool
  live = is_live l.params l.cells l.value

  -- a step is refused by 1, hands back the least live index not below the cursor, or says the end
  pub step_way : StepWay l position (step l position)
  unfolding step step_in
  step_way = go (shape_says l)
    where
      past : shape l ≡ 0 → (x : Next) → Found live (l.params.S - position) position x → StepWay l position (step_to l.params.S l.cells l.value position x)
      past a x (first j u w t f q) = rw q (ways.yields a j (record { below = omega arith; from = u; live = t; least = f }) refl)
      past a x (missing f q) = rw q (ways.ends a (λ j u w. f j u (omega arith)) refl)

      go : (shape l ≡ 0) ⊎ (shape l ≡ 1)
          → StepWay l position (step_unless (shape l) position (step_to l.params.S l.cells l.value position (first_from live (l.params.S - position) position)))
      go (inl a) = rw a (past a _ (first_found live (l.params.S - position) position))
      go (inr a) = rw a (ways.by1 a refl)

-- ---- a setting

module _ (l : Lent) (i v : ℕ) where
  -- a setting is refused by 1 or 3, says Absent, or replaces a live cell's value
  pub set_way : SetWay l i v (set_value l i v)
  unfolding set_value set_at
  set_way = go (shape_says l) (ltb i l.params.S) refl (eqb v l.params.null) refl (is_live l.params l.cells l.value i) refl
    where
      go : (shape l ≡ 0) ⊎ (shape l ≡ 1) → (a : Bool) → ltb i l.params.S ≡ a → (b : Bool) → eqb v l.params.null ≡ b
          → (t : Bool) → is_live l.params l.cells l.value i ≡ t
          → SetWay l i v
          (unless (shape l) l.counts
          (unless (cond {A = ℕ} a 0 1) l.counts
          (unless (cond {A = ℕ} b 3 0) l.counts
          (cond {A = Outcome} t (record { said = replaced (l.value i); looked = 0; counts = l.counts; change = store i v }) (leave absent 0 l.counts)))))
      go (inr s) a ea b eb t et = rw s (ways.by1 s refl)
      go (inl s) false ea b eb t et = rw s (ways.by1_index s (ltb-false _ _ ea) refl)
      go (inl s) true ea true eb t et = rw s (ways.by3 s (ltb-true _ _ ea) (eqb-true _ _ eb) refl)
      go (inl s) true ea false eb false et = rw s (ways.lacks s (ltb-true _ _ ea) (eqb-false _ _ eb) et refl)
      go (inl s) true ea false eb true et = rw s (ways.sets s (ltb-true _ _ ea) (eqb-false _ _ eb) et refl)
