-- Ways to see that a call is a step. Assumes nothing.
use mathlib.Core.Logic.{◌≢◌, ◌⊎◌, inl, inr, ◌↔◌}
use mathlib.Core.Path.{◌≡◌, refl, sym, ap, subst, ◌∙◌}
use Prim.Native.Nat.{ℕ}
use native.Mathlib.Decide.{ℕ_discrete}
use native.Mathlib.Omega.{arith}
use Rattle.rules.specs.Cells.{Lent}
use Rattle.rules.specs.Sound.{Fresh}
use Rattle.rules.specs.Answers.{Outcome}
use Rattle.laws.specs.Left.{Leaves}
use Rattle.sound.specs.State.{State, no_cell, removed_cell, live_cell, state_of, after, SoundTable, finds, IsLive}
use Rattle.sound.proofs.Keeping.{fresh_sound}
use Rattle.movelaws.specs.Movable.{state_moved}
use Rattle.census.specs.History.{put, drop, wipe, still}
use Rattle.census.specs.Steps.{LiveIn, Step}
use Rattle.census.proofs.Steps.{fresh_none}

-- ---- when a state is live

pub none_not_live : IsLive no_cell → ⊥
none_not_live x = let e = x.1 in let z : ◌≡◌ {A = ℕ} 0 1 = cc in omega arith

pub removed_not_live : IsLive removed_cell → ⊥
removed_not_live x = let e = x.1 in let z : ◌≡◌ {A = ℕ} 0 1 = cc in omega arith

-- a find tells it
pub finds_live : (a b : State) → finds a ≡ finds b → IsLive a → IsLive b
finds_live a b e x = go b (sym e ∙ ap finds x.1)
  where
    go : (b : State) → finds b ≡ finds (live_cell x.0) → IsLive b
    go no_cell q = let z : ◌≡◌ {A = ℕ} 0 1 = cc in absurd (omega arith)
    go removed_cell q = let z : ◌≡◌ {A = ℕ} 0 1 = cc in absurd (omega arith)
    go (live_cell v) q = (v, refl)

-- a move keeps it
pub moved_live : (a : State) → IsLive (state_moved a) ↔ IsLive a
moved_live no_cell = (λ x. x, λ x. x)
moved_live removed_cell = (λ x. absurd (none_not_live x), λ x. absurd (removed_not_live x))
moved_live (live_cell v) = (λ x. x, λ x. x)

module _ (l n : Lent) (s : SoundTable n) where
  -- ---- nothing is put or dropped

  pub same_step : ((q : ℕ) → LiveIn n q ↔ LiveIn l q) → Step l still n
  same_step f = record { sound = s; keys = f }

  pub finds_step : ((q : ℕ) → finds (state_of n q) ≡ finds (state_of l q)) → Step l still n
  finds_step f = same_step (λ q. (finds_live (state_of n q) (state_of l q) (f q), finds_live (state_of l q) (state_of n q) (sym (f q))))

  module _ (k : ℕ) (others : (q : ℕ) → q ≢ k → finds (state_of n q) ≡ finds (state_of l q)) where
    -- a key is put: it is live, and every other is as it was
    pub put_step : LiveIn n k → Step l (put k) n
    put_step own = record { sound = s; keys = λ q. (λ x. there q x (ℕ_discrete q k), back q) }
      where
        there : (q : ℕ) → LiveIn n q → Dec (q ≡ k) → (q ≡ k) ⊎ LiveIn l q
        there q x (yes e) = inl e
        there q x (no d) = inr (finds_live (state_of n q) (state_of l q) (others q d) x)

        by : (q : ℕ) → LiveIn l q → Dec (q ≡ k) → LiveIn n q
        by q x (yes e) = subst (λ (j : ℕ). LiveIn n j) (sym e) own
        by q x (no d) = finds_live (state_of l q) (state_of n q) (sym (others q d)) x

        back : (q : ℕ) → (q ≡ k) ⊎ LiveIn l q → LiveIn n q
        back q (inl e) = subst (λ (j : ℕ). LiveIn n j) (sym e) own
        back q (inr x) = by q x (ℕ_discrete q k)

    -- a key is dropped: it is not live, and every other is as it was
    pub drop_step : (LiveIn n k → ⊥) → Step l (drop k) n
    drop_step own =
        record {
          sound = s;
          keys = λ q. (
            λ x.
                let d : q ≢ k = λ e. own (subst (λ (j : ℕ). LiveIn n j) e x) in
                (d, finds_live (state_of n q) (state_of l q) (others q d) x),
            λ x. finds_live (state_of l q) (state_of n q) (sym (others q x.0)) x.1,
          );
        }

    -- it stays as it was too
    pub own_step : finds (state_of n k) ≡ finds (state_of l k) → Step l still n
    own_step own = finds_step (λ q. go q (ℕ_discrete q k))
      where
        go : (q : ℕ) → Dec (q ≡ k) → finds (state_of n q) ≡ finds (state_of l q)
        go q (yes e) = rw e own
        go q (no d) = others q d

-- the table stays
pub stay : (l : Lent) → SoundTable l → Step l still l
stay l s = record { sound = s; keys = λ q. (λ x. x, λ x. x) }

-- a call that leaves all
pub leaves_step : (l : Lent) → SoundTable l → (o : Outcome) → Leaves l.counts o → Step l still (after l o)
leaves_step l s o e = subst (λ (n : Lent). Step l still n) (sym (left_all)) (stay l s)
  where
    left_all : after l o ≡ l
    left_all = λ i. after l (record { said = o.said; looked = o.looked; counts = e.counts i; change = e.change i })

-- a clearing leaves a fresh table
pub wipe_step : (l n : Lent) → Fresh n.params n.cells n.value n.counts → Step l wipe n
wipe_step l n f =
    record { sound = fresh_sound n.params n.cells n.value n.counts f; keys = λ q. (λ x. fresh_none n f q x, λ x. absurd x) }
