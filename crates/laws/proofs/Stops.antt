-- What the stop of a walk tells of the positions that it looked at. Assumes nothing.
use mathlib.Core.Bool.{Bool, true, false, cond}
use mathlib.Core.List.Memᴰ
use mathlib.Core.List.{List, [], ◌∷◌, Memᴰ}
use mathlib.Core.Logic.{◌⊎◌, inl, inr}
use mathlib.Core.Path.{◌≡◌, refl, ap, subst}
use Prim.Native.Nat.{ℕ, zero, suc, ◌-◌, ◌%◌, ◌≤◌}
use native.Mathlib.Omega.{arith}
use lib.Dec.{eqb}
use lib.ListN.{length}
use Rattle.rules.specs.Cells.{Cells, holds}
use Rattle.rules.specs.Walk.{Stop, met, tail, broken, Walk, stopped, looking, on, follow, walk}
use Rattle.laws.specs.Full.{Unmet, last_from}

last_member : (p : ℕ) (l : List ℕ) → Memᴰ (last_from p l) (p ∷ l)
last_member p [] = Memᴰ.head refl
last_member p (q ∷ l) = Memᴰ.tail (last_member q l)

module _ (S : ℕ) (cs : Cells) (h k : ℕ) where
  -- from position p on, with n links left: met only at the last position, where the key is; else the key is nowhere, the tail is
  -- the last position, and broken means that every link was followed
  abbrev Tells : (n p : ℕ) → List ℕ → Stop → Type 0
  Tells n p seen (met q) = (q ≡ last_from p seen) × (holds cs (q % S) h k ≡ true)
  Tells n p seen (tail q) = (q ≡ last_from p seen) × Unmet S cs h k seen
  Tells n p seen broken = (length seen ≡ n) × Unmet S cs h k seen

  none_met : Unmet S cs h k []
  none_met q m = absurd (Memᴰ.not-nil m)

  unmet_on : (q : ℕ) (seen : List ℕ) → holds cs (q % S) h k ≡ false → Unmet S cs h k seen → Unmet S cs h k (q ∷ seen)
  unmet_on q seen e u r m = go (Memᴰ.cases_cons m)
    where
      go : (r ≡ q) ⊎ Memᴰ r seen → holds cs (r % S) h k ≡ false
      go (inl x) = rw x e
      go (inr x) = u r x

  tells_on : (n p q : ℕ) (seen : List ℕ) (s : Stop) → holds cs (q % S) h k ≡ false → Tells n q seen s → Tells (suc n) p (q ∷ seen) s
  tells_on n p q seen (met r) e t = t
  tells_on n p q seen (tail r) e t = (t.0, unmet_on q seen e t.1)
  tells_on n p q seen broken e t = (ap suc t.0, unmet_on q seen e t.1)

  -- one position more: met there, or what follows tells
  look : (n p q : ℕ) (w : Walk) (b : Bool) → holds cs (q % S) h k ≡ b → Tells n q w.seen w.stop
      → Tells (suc n) p (q ∷ (cond b (stopped (met q)) w).seen) (cond b (stopped (met q)) w).stop
  look n p q w true e t = (refl, e)
  look n p q w false e t = tells_on n p q w.seen w.stop e t

  ended : (n p : ℕ) (w : Walk) (b : Bool) → Tells n p w.seen w.stop
      → Tells n p (cond b (stopped (tail p)) w).seen (cond b (stopped (tail p)) w).stop
  ended n p w true t = (refl, none_met)
  ended n p w false t = t

  follow_tells : (n p d : ℕ) → Tells n p (follow S cs h k n p d).seen (follow S cs h k n p d).stop
  unfolding follow
  follow_tells zero p d = ended 0 p (stopped broken) (eqb d 0) (refl, none_met)
  follow_tells (suc n) p d =
      let q = on p d in
      let rest = follow S cs h k n q (cs.second (q % S)) in
      ended (suc n) p (looking q (cond (holds cs (q % S) h k) (stopped (met q)) rest)) (eqb d 0)
      (look n p q rest (holds cs (q % S) h k) refl (follow_tells n q (cs.second (q % S))))

  walk_tells : Tells (suc (S - 1)) h (walk S cs h k).seen (walk S cs h k).stop
  unfolding walk
  walk_tells =
      look (S - 1) h h (follow S cs h k (S - 1) h (cs.first (h % S))) (holds cs (h % S) h k) refl (follow_tells (S - 1) h (cs.first (h % S)))

  -- the last position is among those looked at
  pub last_seen : Memᴰ (last_from h (walk S cs h k).seen) (walk S cs h k).seen
  unfolding walk
  last_seen = last_member h (cond (holds cs (h % S) h k) (stopped (met h)) (follow S cs h k (S - 1) h (cs.first (h % S)))).seen

  stop_tells : (s : Stop) → (walk S cs h k).stop ≡ s → Tells (suc (S - 1)) h (walk S cs h k).seen s
  stop_tells s e = subst (λ (s : Stop). Tells (suc (S - 1)) h (walk S cs h k).seen s) e walk_tells

  -- a walk that met stopped at its last position
  pub met_last : (q : ℕ) → (walk S cs h k).stop ≡ met q → q ≡ last_from h (walk S cs h k).seen
  met_last q e = (stop_tells (met q) e).0

  -- and the cell there holds the key
  pub met_holds : (q : ℕ) → (walk S cs h k).stop ≡ met q → holds cs (q % S) h k ≡ true
  met_holds q e = (stop_tells (met q) e).1

  -- the tail is the last position
  pub tail_last : (q : ℕ) → (walk S cs h k).stop ≡ tail q → q ≡ last_from h (walk S cs h k).seen
  tail_last q e = (stop_tells (tail q) e).0

  -- a walk that came to a tail met the key nowhere
  pub tail_unmet : (q : ℕ) → (walk S cs h k).stop ≡ tail q → Unmet S cs h k (walk S cs h k).seen
  tail_unmet q e = (stop_tells (tail q) e).1

  -- nor did a broken one
  pub broken_unmet : (walk S cs h k).stop ≡ broken → Unmet S cs h k (walk S cs h k).seen
  broken_unmet e = (stop_tells broken e).1

  -- a broken walk looked at exactly S cells: the home and S - 1 links
  pub broken_looked : 1 ≤ S → (walk S cs h k).stop ≡ broken → length (walk S cs h k).seen ≡ S
  broken_looked l e = let t = (stop_tells broken e).0 in omega arith
