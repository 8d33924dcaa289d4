-- Insert, remove, a use of an entry and a setting are steps, by every answer. Assumes nothing.
use mathlib.Core.List.{List, []}
use mathlib.Core.Logic.{◌≢◌, ◌⊎◌, inl, inr, ◌↔◌}
use mathlib.Core.Path.{◌≡◌, refl, sym, ap, subst, ◌∙◌}
use Prim.Native.Nat.{ℕ}
use native.Mathlib.Decide.{ℕ_discrete}
use native.Mathlib.Omega.{arith}
use Rattle.rules.specs.Cells.{Lent}
use Rattle.rules.specs.Answers.{Said, found, absent, new, replaced, revived, removed, refused, Outcome, leave}
use Rattle.rules.specs.Calls.{insert, remove}
use Rattle.rules.specs.Entries.{Entry, Action, use_entry}
use Rattle.rules.specs.Cursor.{set_value}
use Rattle.laws.specs.Full.{IsFull}
use Rattle.laws.specs.Ways as ways
use Rattle.laws.specs.Ways.{InsertChecked, RemoveChecked}
use Rattle.laws.proofs.Ways.{insert_checked, remove_checked}
use Rattle.laws.proofs.Refusals.{insert_refused_leaves}
use Rattle.sound.specs.State.{State, no_cell, removed_cell, live_cell, state_of, after, SoundTable, Sized, Acceptable, finds, inserts, removes, without_value, IsLive}
use Rattle.sound.proofs.Keeping.{insert_keeps_sound, remove_keeps_sound}
use Rattle.sound.proofs.ByKey.{insert_says_lem, insert_makes_live, insert_others, remove_says_lem, remove_own, remove_others}
use Rattle.entrylaws.specs.Sound.{UseAs, checked, as_find, as_insert, as_remove}
use Rattle.entrylaws.proofs.OnSound.{sound_use}
use Rattle.walked.specs.Ways as sets
use Rattle.walked.specs.Ways.{SetWay}
use Rattle.walked.proofs.Ways.{set_way}
use Rattle.walked.proofs.Sets.{set_keeps_sound, set_others, set_own_before, set_own}
use Rattle.census.specs.History.{put, drop, still}
use Rattle.census.specs.Steps.{LiveIn, Step}
use Rattle.census.specs.Events.{event_by}
use Rattle.census.proofs.Keys.{removed_not_live, same_step, put_step, drop_step, own_step, stay, leaves_step}

-- a refusal, or none
pub refused_or : (s : Said) → ((n : ℕ) × (x : List ℕ) × (s ≡ refused n x)) ⊎ ((n : ℕ) (x : List ℕ) → s ≢ refused n x)
refused_or (found v) = inr (λ n x e. let z : ◌≡◌ {A = ℕ} 0 1 = cc in omega arith)
refused_or absent = inr (λ n x e. let z : ◌≡◌ {A = ℕ} 0 1 = cc in omega arith)
refused_or new = inr (λ n x e. let z : ◌≡◌ {A = ℕ} 0 1 = cc in omega arith)
refused_or (replaced v) = inr (λ n x e. let z : ◌≡◌ {A = ℕ} 0 1 = cc in omega arith)
refused_or revived = inr (λ n x e. let z : ◌≡◌ {A = ℕ} 0 1 = cc in omega arith)
refused_or (removed v) = inr (λ n x e. let z : ◌≡◌ {A = ℕ} 0 1 = cc in omega arith)
refused_or (refused n x) = inl (n, x, refl)

-- what an insert answers by its key's state is a successful insert
pub inserts_put : (k : ℕ) (s : State) → event_by k (inserts s) ≡ put k
inserts_put k no_cell = refl
inserts_put k removed_cell = refl
inserts_put k (live_cell v) = refl

-- and Removed a successful remove
removes_drop : (k v : ℕ) → event_by k (removes (live_cell v)) ≡ drop k
removes_drop k v = refl

module _ (l : Lent) (sized : Sized l) (s : SoundTable l) where
  -- an insert
  pub insert_step : (k v : ℕ) → Step l (event_by k (insert l k v).said) (after l (insert l k v))
  insert_step k v = go (refused_or (insert l k v).said)
    where
      accepted : ((m : ℕ) (x : List ℕ) → (insert l k v).said ≢ refused m x) → Acceptable l k v
      accepted f = by _ (insert_checked l k v) refl
        where
          by : (o : Outcome) → InsertChecked l k v o → insert l k v ≡ o → Acceptable l k v
          by o (ways.by1 a e) q = absurd (f 1 [] (ap (λ (o : Outcome). o.said) (q ∙ e)))
          by o (ways.by3 a b e) q = absurd (f 3 [] (ap (λ (o : Outcome). o.said) (q ∙ e)))
          by o (ways.by2 a b d e) q = absurd (f 2 [] (ap (λ (o : Outcome). o.said) (q ∙ e)))
          by o (ways.past a b d e) q = record { shaped = a; value = b; hash = d }

      go : ((m : ℕ) × (x : List ℕ) × ((insert l k v).said ≡ refused m x)) ⊎ ((m : ℕ) (x : List ℕ) → (insert l k v).said ≢ refused m x)
          → Step l (event_by k (insert l k v).said) (after l (insert l k v))
      go (inl y) =
          rw (ap (event_by k) y.2) (leaves_step l s (insert l k v) (insert_refused_leaves y.0 y.1 l k v y.2))
      go (inr f) =
          let a = accepted f in
          let open_to : IsFull (insert l k v).said → ⊥ = λ y. f 4 y.carried y.says in
          let e = rw (a.shaped, a.value, a.hash) at (insert_says_lem l sized s k v open_to) in
          rw (ap (event_by k) e ∙ inserts_put k (state_of l k))
          (put_step l (after l (insert l k v)) (insert_keeps_sound l sized s k v) k (λ q d. ap finds (insert_others l sized s k v q d))
          (v, insert_makes_live l sized s k v a open_to))

  -- a remove
  pub remove_step : (k : ℕ) → Step l (event_by k (remove l k).said) (after l (remove l k))
  remove_step k = go _ (remove_checked l k) refl
    where
      others : (q : ℕ) → q ≢ k → finds (state_of (after l (remove l k)) q) ≡ finds (state_of l q)
      others q d = ap finds (remove_others l sized s k q d)

      by : (t : State) → state_of l k ≡ t → (remove l k).said ≡ removes t → state_of (after l (remove l k)) k ≡ without_value t
          → Step l (event_by k (remove l k).said) (after l (remove l k))
      by no_cell e a b = rw (ap (event_by k) a) (own_step l (after l (remove l k)) (remove_keeps_sound l sized s k) k others (ap finds (b ∙ sym e)))
      by removed_cell e a b = rw (ap (event_by k) a) (own_step l (after l (remove l k)) (remove_keeps_sound l sized s k) k others (ap finds (b ∙ sym e)))
      by (live_cell v) e a b =
          rw (ap (event_by k) a ∙ removes_drop k v)
          (drop_step l (after l (remove l k)) (remove_keeps_sound l sized s k) k others (λ x. removed_not_live (subst IsLive b x)))

      left : (n : ℕ) → remove l k ≡ leave (refused n []) 0 l.counts → Step l (event_by k (remove l k).said) (after l (remove l k))
      left n e = rw e (stay l s)

      go : (o : Outcome) → RemoveChecked l k o → remove l k ≡ o → Step l (event_by k (remove l k).said) (after l (remove l k))
      go o (ways.by1 a e) q = left 1 (q ∙ e)
      go o (ways.by2 a d e) q = left 2 (q ∙ e)
      go o (ways.past a d e) q =
          by (state_of l k) refl (rw (a, d) at (remove_says_lem l sized s k)) (rw (a, d) at (remove_own l sized s k))

  -- a use of an entry, late or not, is a step on the entry's key
  pub use_step : (e : Entry) (a : Action) → Step l (event_by e.key (use_entry l e a).said) (after l (use_entry l e a))
  use_step e a = go _ (sound_use l sized s e a)
    where
      go : (o : Outcome) → UseAs l e a o → Step l (event_by e.key o.said) (after l o)
      go o (checked n m q) = rw q (stay l s)
      go o (as_find v r x q) = rw q (stay l s)
      go o (as_insert v p x q) = rw q (insert_step e.key v)
      go o (as_remove v p x y q) = rw q (remove_step e.key)

  -- a setting puts no key and drops none, by every answer
  pub set_step : (i v : ℕ) → Step l still (after l (set_value l i v))
  set_step i v = same_step l (after l (set_value l i v)) (set_keeps_sound l i v s) (λ q. go q (ℕ_discrete q (l.cells.key i)))
    where
      own : (o : Outcome) → SetWay l i v o → set_value l i v ≡ o → LiveIn (after l (set_value l i v)) (l.cells.key i) ↔ LiveIn l (l.cells.key i)
      own o (sets.by1 a e) q = rw (q ∙ e) (λ x. x, λ x. x)
      own o (sets.by1_index a u e) q = rw (q ∙ e) (λ x. x, λ x. x)
      own o (sets.by3 a u n e) q = rw (q ∙ e) (λ x. x, λ x. x)
      own o (sets.lacks a u n t e) q = rw (q ∙ e) (λ x. x, λ x. x)
      own o (sets.sets a u n t e) q =
          let x : (set_value l i v).said ≡ replaced (l.value i) = ap (λ (o : Outcome). o.said) (q ∙ e) in
          (λ y. (l.value i, set_own_before l i v s (l.value i) x), λ y. (v, set_own l i v s (l.value i) x))

      go : (q : ℕ) → Dec (q ≡ l.cells.key i) → LiveIn (after l (set_value l i v)) q ↔ LiveIn l q
      go q (yes e) = rw e (own _ (set_way l i v) refl)
      go q (no d) =
          let e = set_others l i v q d in
          (λ x. subst IsLive e x, λ x. subst IsLive (sym e) x)
