-- Where an insert into a built table is Full, the tail and its whole window are taken: 129 cells, or all at sizes up to 128. Assumes
-- nothing.
use mathlib.Core.Bool.{Bool, true, false, not, ◌&&◌, and-true, and-false}
use mathlib.Core.Logic.{◌≢◌, ◌⊎◌, inl, inr}
use mathlib.Core.Path.{◌≡◌, refl, sym, ap, ◌∙◌}
use Prim.Native.Nat.{ℕ, zero, suc, ◌+◌, ◌-◌, ◌%◌, ◌≤◌, ◌<◌}
use native.Mathlib.Decide.{dec_le}
use native.Mathlib.Nat.{mod-lt, mod-eq_of_lt, add-mod_right, add-zero}
use native.Mathlib.Omega.{arith}
use borrow.Author.Tests.{eq-eqb, ne_eqb}
use lib.Dec.{eqb}
use Rattle.rules.specs.Sizes.{window}
use Rattle.rules.specs.Cells.{Params, Cells, is_taken}
use Rattle.rules.specs.Sound.{Taken, count}
use Rattle.laws.specs.Full.{FullWhen}
use Rattle.sound.proofs.Room.{tail_taken}
use Rattle.sound.specs.Built.{Built}
use Rattle.sound.specs.Stops.{Wraps}
use Rattle.sound.proofs.Counts.{count_one}
use Rattle.sound.proofs.Positions.{position_cell}

-- ---- counting

-- n different numbers below T pass a test: so many are counted
count_hits : (f : ℕ → Bool) (T : ℕ) (g : ℕ → ℕ) (n : ℕ) → ((d : ℕ) → d < n → g d < T) → ((d : ℕ) → d < n → f (g d) ≡ true)
    → ((a b : ℕ) → a < n → b < n → g a ≡ g b → a ≡ b)
    → n ≤ count f T
count_hits f T g zero u t differ = omega arith
count_hits f T g (suc n) u t differ =
    let less = count_hits but T g n (λ d w. u d (omega arith)) (λ d w. others d w) (λ a b v w. differ a b (omega arith) (omega arith)) in
    omega (arith, less, count_one but f (g n) T (u n (omega arith)) own (t n (omega arith)) (λ j q. sym (apart j q)))
  where
    but : ℕ → Bool
    but j = f j && not (eqb j (g n))

    own : but (g n) ≡ false
    own = rw (eq-eqb (g n) (g n) refl) (and-false (f (g n)))

    apart : (j : ℕ) → j ≢ g n → but j ≡ f j
    apart j q = rw (ne_eqb j (g n) q) (and-true (f j))

    others : (d : ℕ) → d < n → but (g d) ≡ true
    others d w = apart (g d) (λ (q : g d ≡ g n). let y = differ d n (omega arith) (omega arith) q in omega arith) ∙ t d (omega arith)

-- positions less than T apart are different cells
cells_differ : (T z a b : ℕ) → z < T → a < T → b < T → (z + a) % T ≡ (z + b) % T → a ≡ b
cells_differ T z a b u v w e = go (reduced (z + a) (omega arith)) (reduced (z + b) (omega arith))
  where
    reduced : (x : ℕ) → x < T + T → (x % T ≡ x) ⊎ ((x % T + T ≡ x) × (x % T < T))
    reduced x l = by (dec_le T x)
      where
        by : Dec (T ≤ x) → (x % T ≡ x) ⊎ ((x % T + T ≡ x) × (x % T < T))
        by (yes h) =
            let k : x ≡ x - T + T = omega arith in
            let m : x % T ≡ x - T = ap (λ (y : ℕ). y % T) k ∙ add-mod_right (x - T) T ∙ mod-eq_of_lt (omega arith) in
            inr (omega (arith, m), omega (arith, m))
        by (no h) = inl (mod-eq_of_lt (omega arith))

    go : ((z + a) % T ≡ z + a) ⊎ (((z + a) % T + T ≡ z + a) × ((z + a) % T < T)) → ((z + b) % T ≡ z + b) ⊎ (((z + b) % T + T ≡ z + b) × ((z + b) % T < T)) → a ≡ b
    go (inl x) (inl y) = omega (arith, e)
    go (inl x) (inr y) = omega (arith, e)
    go (inr x) (inl y) = omega (arith, e)
    go (inr x) (inr y) = omega (arith, e)

-- ---- a table that is Full to an insert

module _ (p : Params) (cs : Cells) (value : ℕ → ℕ) (b : Built p cs value) (z : Wraps p.S) (h k : ℕ) (some : h ≢ 0) (w : FullWhen p.S cs h k) where
  -- the cells from the tail on, as far as the window goes
  abbrev past : ℕ → ℕ
  past d = (w.last % p.S + d) % p.S

  -- the tail is the home or a cell of its chain, so it is taken
  last_taken : Taken cs (w.last % p.S)
  last_taken = tail_taken p cs value b z h k some w.last w.home w.ends

  past_taken : (d : ℕ) → d < window p.S + 1 → Taken cs (past d)
  past_taken zero u = rw (add-zero (w.last % p.S), mod-eq_of_lt (mod-lt w.last z.some)) last_taken
  past_taken (suc d) u = rw (← position_cell p.S w.last (suc d) z) (w.window_taken (suc d) (omega arith) (omega arith))

  -- so many cells are taken
  pub full_crowded : window p.S + 1 ≤ count (is_taken cs) p.S
  full_crowded =
      count_hits (is_taken cs) p.S past (window p.S + 1) (λ d u. mod-lt (w.last % p.S + d) z.some) (λ d u. rw (ne_eqb (cs.hash (past d)) 0 (past_taken d u)))
      (λ x y u v. cells_differ p.S (w.last % p.S) x y (mod-lt w.last z.some) (omega arith) (omega arith))
