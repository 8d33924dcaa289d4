-- Move keeps a table sound (01: "find, insert, remove and move keep it"), with the same keys and values and no removed cell. Assumes
-- nothing.
use mathlib.Core.Bool.{Bool, true, false, cond, ◌&&◌}
use mathlib.Core.Logic.{◌≢◌, ◌⊎◌, inl, inr, ◌↔◌}
use mathlib.Core.Path.{◌≡◌, refl, sym, ap, ◌∙◌}
use Prim.Native.Nat.{ℕ, zero, suc, ◌<◌}
use native.Mathlib.Decide.{ℕ_discrete}
use native.Mathlib.Omega.{arith}
use borrow.Author.Tests.{eqb-true, eqb-false}
use lib.Dec.{eqb}
use Rattle.rules.specs.Sizes.{is_size}
use Rattle.rules.specs.Cells.{Params, Cells, Counts, is_taken}
use Rattle.rules.specs.Moves.{Held, held_after_all, all, move_all}
use Rattle.rules.specs.Sound.{Taken, HashesKeys, Sound}
use Rattle.sound.specs.State.{State, no_cell, removed_cell, live_cell, state_with, state_below, state_in}
use Rattle.sound.proofs.Keeping.{built_sound}
use Rattle.sound.proofs.States.{state_live, state_removed, state_of_cell}
use Rattle.movelaws.specs.Carried.{IsClear, LiveAt, Carried}
use Rattle.movelaws.specs.Movable.{at_size, state_moved}
use Rattle.movelaws.proofs.Moved.{moved_carried, moved_live}

-- ---- a key's state in any table

-- it is that of a taken cell with the key, or no taken cell has it
pub data KeyAt (null : ℕ) (cs : Cells) (value : ℕ → ℕ) (k n : ℕ) (s : State) : Type 0 where
  has : (i : ℕ) → i < n → Taken cs i → cs.key i ≡ k → s ≡ state_with null (value i) → KeyAt null cs value k n s
  lacks : ((j : ℕ) → j < n → Taken cs j → cs.key j ≢ k) → s ≡ no_cell → KeyAt null cs value k n s

pub key_at : (null : ℕ) (cs : Cells) (value : ℕ → ℕ) (k n : ℕ) → KeyAt null cs value k n (state_below null cs value k n)
unfolding state_below
key_at null cs value k zero = lacks (λ j u. absurd (omega arith)) refl
key_at null cs value k (suc n) = go (eqb (cs.hash n) 0) refl (eqb (cs.key n) k) refl (key_at null cs value k n)
  where
    rest : State
    rest = state_below null cs value k n

    more : ((cs.hash n ≡ 0) ⊎ (cs.key n ≢ k)) → KeyAt null cs value k n rest → KeyAt null cs value k (suc n) rest
    more x (has i u t e s) = has i (omega arith) t e s
    more x (lacks f s) = lacks (λ j u. by x j u (ℕ_discrete j n)) s
      where
        by : ((cs.hash n ≡ 0) ⊎ (cs.key n ≢ k)) → (j : ℕ) → j < suc n → Dec (j ≡ n) → Taken cs j → cs.key j ≢ k
        by (inl e) j u (yes q) t = absurd (t (ap cs.hash q ∙ e))
        by (inr e) j u (yes q) t = rw q e
        by x j u (no q) t = f j (omega arith) t

    go : (a : Bool) → eqb (cs.hash n) 0 ≡ a → (b : Bool) → eqb (cs.key n) k ≡ b → KeyAt null cs value k n rest
        → KeyAt null cs value k (suc n) (cond {A = State} (is_taken cs n && eqb (cs.key n) k) (state_with null (value n)) rest)
    go true x b y ih = rw x (more (inl (eqb-true _ _ x)) ih)
    go false x true y ih = has n (omega arith) (eqb-false _ _ x) (eqb-true _ _ y) (rw (x, y))
    go false x false y ih = rw (x, y) (more (inr (eqb-false _ _ y)) ih)

-- ---- the moved table

module _ (p : Params) (from : Held) (c : Counts) (s : Sound p from.cells from.value c) (T : ℕ) (to : Held) (y : Carried (at_size p T) from p.S to c) where
  -- every taken cell's hash is its key's there too
  hashes : HashesKeys (at_size p T) to.cells
  hashes e u t =
      let o = y.back e u t in
      o.same.hash ∙ s.hashes_keys o.cell o.below o.live.taken ∙ ap p.hash_of (sym o.same.key)

  -- a table that holds the live cells of a sound one, and nothing else, is sound
  pub carried_sound : Sound (at_size p T) to.cells to.value c
  carried_sound = built_sound (at_size p T) to.cells to.value c y.built hashes y.live_counts

  -- and each key's state there is as its source's, but that a removed key has no cell
  pub carried_state : (k : ℕ) → state_in (at_size p T) to.cells to.value k ≡ state_moved (state_in p from.cells from.value k)
  carried_state k = go (key_at p.null from.cells from.value k p.S)
    where
      -- where no live cell of the source has the key, it has no cell
      none : ((i : ℕ) → i < p.S → LiveAt p.null from i → from.cells.key i ≢ k) → state_in (at_size p T) to.cells to.value k ≡ no_cell
      none f = by _ (key_at p.null to.cells to.value k T)
        where
          by : (x : State) → KeyAt p.null to.cells to.value k T x → x ≡ no_cell
          by x (has e u t q w) = let o = y.back e u t in absurd (f o.cell o.below o.live (sym o.same.key ∙ q))
          by x (lacks g w) = w

      at : (i : ℕ) → i < p.S → Taken from.cells i → from.cells.key i ≡ k → Dec (from.value i ≡ p.null)
          → state_in (at_size p T) to.cells to.value k ≡ state_moved (state_with p.null (from.value i))
      at i u t e (yes q) =
          rw (state_removed p.null (from.value i) q)
          (none (λ j w a f. a.valued (ap from.value (s.keys_differ j i w u a.taken t (f ∙ sym e)) ∙ q)))
      at i u t e (no q) =
          let o = y.there i u (record { taken = t; valued = q }) in
          rw (state_live p.null (from.value i) q)
          (state_of_cell (at_size p T) to.cells to.value c carried_sound k o.cell o.below (λ x. t (sym o.same.hash ∙ x)) (o.same.key ∙ e)
          ∙ rw o.same.value (state_live p.null (from.value i) q))

      go : {x : State} → KeyAt p.null from.cells from.value k p.S x → state_in (at_size p T) to.cells to.value k ≡ state_moved x
      go (has i u t e x) = rw x (at i u t e (ℕ_discrete (from.value i) p.null))
      go (lacks f x) = rw x (none (λ i u a. f i u a.taken))

-- ---- the same of a whole move

module _ (p : Params) (from : Held) (c : Counts) (s : Sound p from.cells from.value c) (T : ℕ) (clear : Held) (size : is_size T ≡ true)
    (empty : IsClear p.null T clear) (c' : Counts) (e : (move_all p.null p.S from c T clear).ended ≡ all c') where
  abbrev moved : Held
  moved = held_after_all (move_all p.null p.S from c T clear).fills clear

  -- the new record has the same live
  pub moved_counts : c' ≡ c
  moved_counts = λ i. record { live = moved_live (at_size p T) p.S from c clear size empty c' e i }

  carried : Carried (at_size p T) from p.S moved c
  carried = rw moved_counts at (moved_carried (at_size p T) p.S from c clear size empty c' e)

  -- the table that a sound one is moved into is sound
  pub moved_sound : Sound (at_size p T) moved.cells moved.value c'
  moved_sound = rw moved_counts (carried_sound p from c s T moved carried)

  -- each key's state in it is as before, but that a removed key has no cell
  pub moved_state : (k : ℕ) → state_in (at_size p T) moved.cells moved.value k ≡ state_moved (state_in p from.cells from.value k)
  moved_state = carried_state p from c s T moved carried

  -- the same keys with the same values
  pub moved_live_exactly : (k v : ℕ)
      → (state_in (at_size p T) moved.cells moved.value k ≡ live_cell v) ↔ (state_in p from.cells from.value k ≡ live_cell v)
  moved_live_exactly k v = (λ x. back (state_in p from.cells from.value k) (sym (moved_state k) ∙ x), λ x. moved_state k ∙ ap state_moved x)
    where
      back : (x : State) → state_moved x ≡ live_cell v → x ≡ live_cell v
      back no_cell q = let n : ◌≡◌ {A = ℕ} 0 1 = cc in absurd (omega arith)
      back removed_cell q = let n : ◌≡◌ {A = ℕ} 0 1 = cc in absurd (omega arith)
      back (live_cell w) q = q

  -- and no removed cell
  pub moved_none_removed : (k : ℕ) → state_in (at_size p T) moved.cells moved.value k ≢ removed_cell
  moved_none_removed k x = by (state_in p from.cells from.value k) (sym (moved_state k) ∙ x)
    where
      by : (x : State) → state_moved x ≢ removed_cell
      by no_cell q = let n : ◌≡◌ {A = ℕ} 0 1 = cc in omega arith
      by removed_cell q = let n : ◌≡◌ {A = ℕ} 0 1 = cc in omega arith
      by (live_cell w) q = let n : ◌≡◌ {A = ℕ} 0 1 = cc in omega arith
