-- Over any steps from a fresh table: a key is live exactly if it stands, and live is the number of these keys. Assumes nothing.
use mathlib.Core.List.{List, [], ◌∷◌}
use mathlib.Core.Logic.{◌↔◌, inl}
use mathlib.Core.Path.{◌≡◌, subst}
use Prim.Native.Nat.{ℕ}
use native.Mathlib.Omega.{arith}
use lib.ListN.{length}
use Rattle.rules.specs.Cells.{Lent}
use Rattle.rules.specs.Sound.{Fresh}
use Rattle.sound.specs.State.{State, live_cell, SoundTable}
use Rattle.sound.proofs.Keeping.{fresh_sound}
use Rattle.movelaws.proofs.Sound.{KeyAt, has, lacks, key_at}
use Rattle.order.specs.Number.{Lists}
use Rattle.order.proofs.Number.{lists_same}
use Rattle.order.proofs.LiveKeys.{live_numbers}
use Rattle.census.specs.History.{Event, Stands}
use Rattle.census.specs.Steps.{LiveIn, LiveAfter, Steps}
use Rattle.census.proofs.History.{LiveAfterAll, live_after_none, live_after_more, live_after_same, stands_live}

-- the table is sound at the end
pub steps_sound : (es : List Event) (l n : Lent) → SoundTable l → Steps l es n → SoundTable n
steps_sound [] l n s r = subst (λ (x : Lent). SoundTable x) r s
steps_sound (e ∷ es) l n s r = steps_sound es r.0 n r.1.sound r.2

-- a key is live at the end by the events, and by whether it was live at the start
pub steps_live : (es : List Event) (l n : Lent) → Steps l es n → (k : ℕ) → LiveIn n k ↔ LiveAfterAll es k (LiveIn l k)
steps_live [] l n r k = subst (λ (x : Lent). LiveIn x k ↔ LiveAfterAll [] k (LiveIn l k)) r ((live_after_none k (LiveIn l k)).1, (live_after_none k (LiveIn l k)).0)
steps_live (e ∷ es) l n r k =
    let m = r.0 in
    let i = steps_live es m n r.2 k in
    let o = live_after_more e es k (LiveIn l k) in
    let s = r.1.keys k in (
      λ x. o.1 (live_after_same es k (LiveIn m k) (LiveAfter e k (LiveIn l k)) s.0 (i.0 x)),
      λ x. i.1 (live_after_same es k (LiveAfter e k (LiveIn l k)) (LiveIn m k) s.1 (o.0 x)),
    )

-- no key is live in a fresh table
pub fresh_none : (l : Lent) → Fresh l.params l.cells l.value l.counts → (k : ℕ) → LiveIn l k → ⊥
fresh_none l f k x = go _ (key_at l.params.null l.cells l.value k l.params.S) x.1
  where
    go : (s : State) → KeyAt l.params.null l.cells l.value k l.params.S s → s ≡ live_cell x.0 → ⊥
    go s (has i u t e q) y = t (f.empty i u)
    go s (lacks g q) y = let z : ◌≡◌ {A = ℕ} 0 1 = cc in omega arith

module _ (es : List Event) (l n : Lent) (f : Fresh l.params l.cells l.value l.counts) (r : Steps l es n) where
  -- over any steps from a fresh table the table is sound
  pub fresh_steps_sound : SoundTable n
  fresh_steps_sound = steps_sound es l n (fresh_sound l.params l.cells l.value l.counts f) r

  -- a key is live exactly if its last successful insert has no later successful remove and no later clearing
  pub live_exactly : (k : ℕ) → LiveIn n k ↔ Stands es k
  live_exactly k =
      (λ x. stands_live es k (live_after_same es k (LiveIn l k) ⊥ (fresh_none l f k) ((steps_live es l n r k).0 x)), λ s. (steps_live es l n r k).1 (inl s))

  -- and live equals the number of these keys
  pub live_number : (ks : List ℕ) → Lists (Stands es) ks → n.counts.live ≡ length ks
  live_number ks m =
      live_numbers n fresh_steps_sound ks (lists_same (Stands es) (LiveIn n) ks (λ k. (live_exactly k).1) (λ k. (live_exactly k).0) m)
