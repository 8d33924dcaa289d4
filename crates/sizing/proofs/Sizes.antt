-- The first size is a power of two, at least the least size and at most twice S. Assumes nothing.
use Rattle.std.proofs.Common.{◌≡◌, ℕ, suc, ◌*◌, ◌/◌, ◌^◌, ◌<◌, ◌≤◌, max, true, sym, ap, ◌∙◌, subst, ⊎_elim, le_trans, mul-le-mul_right, mul_comm, eq-zero-or-pos, mul-le-mul_left, pow-suc, arith, pow_mono}
use native.Mathlib.Decide.{dec_le}
use Rattle.util.specs.Power.{round_up}
use Rattle.util.proofs.Powers.{round_none, round_is, round_least}
use Rattle.rules.specs.Sizes.{is_size, least_log, greatest_log}
use Rattle.rules.specs.Growth.{sampled, first_size}
use Rattle.steps.proofs.Sizes.{size_power, size_least, size_greatest, log_least}

pub first_size_least : (S n : ℕ) → 2 ^ least_log ≤ first_size S n
unfolding first_size
first_size_least S n = omega arith

-- the greater of the least size and a power of two
greater : (m top : ℕ) → least_log ≤ top → m ≤ top → (k : ℕ) × (max (2 ^ least_log) (2 ^ m) ≡ 2 ^ k) × (least_log ≤ k) × (k ≤ top)
greater m top lo hi = go (dec_le m least_log)
  where
    go : Dec (m ≤ least_log) → (k : ℕ) × (max (2 ^ least_log) (2 ^ m) ≡ 2 ^ k) × (least_log ≤ k) × (k ≤ top)
    go (yes l) = let q : 2 ^ m ≤ 2 ^ least_log = pow_mono {i = m} {j = least_log} l in (least_log, omega arith, omega arith, lo)
    go (no l) = let q : 2 ^ least_log ≤ 2 ^ m = pow_mono {i = least_log} {j = m} (omega arith) in (m, omega arith, omega arith, hi)

-- a number rounded up, and at least the least size
raised : (x top : ℕ) → least_log ≤ top → x ≤ 2 ^ top → x ≤ 2 ^ 63 → (k : ℕ) × (max (2 ^ least_log) (round_up x) ≡ 2 ^ k) × (least_log ≤ k) × (k ≤ top)
raised x top lo hi h = ⊎_elim none some (eq-zero-or-pos x)
  where
    none : x ≡ 0 → (k : ℕ) × (max (2 ^ least_log) (round_up x) ≡ 2 ^ k) × (least_log ≤ k) × (k ≤ top)
    none e = let z : round_up x ≡ 0 = round_none x (λ q. omega arith) in (least_log, rw z (omega arith), omega arith, lo)

    some : 0 < x → (k : ℕ) × (max (2 ^ least_log) (round_up x) ≡ 2 ^ k) × (least_log ≤ k) × (k ≤ top)
    some q =
        let r = round_least x q h in
        let g = greater r.0 top lo (log_least r.0 top (r.3 top hi)) in
        (g.0, ap (max (2 ^ least_log)) r.1 ∙ g.1, g.2, g.3)

twice : (k : ℕ) → 2 ^ suc k ≡ 2 * 2 ^ k
twice k = pow-suc 2 k ∙ mul_comm (2 ^ k) 2

module _ (S : ℕ) (s : is_size S ≡ true) where
  abbrev pub log : ℕ
  log = (size_power S s).log

  pub log_most : log ≤ greatest_log
  log_most = omega (arith, (size_power S s).high)

  twice_size : 2 * S ≡ 2 ^ suc log
  twice_size = ap (λ (x : ℕ). 2 * x) (size_power S s).is ∙ sym (twice log)

  -- where the whole sample is live, the first size is twice S
  pub first_size_full : first_size S sampled ≡ 2 * S
  unfolding first_size
  first_size_full =
      let t = twice_size in
      let b = size_least S s in
      let g = size_greatest S s in
      let e : S * sampled / 32 ≡ 2 * S = omega arith in
      let r : round_up (2 * S) ≡ 2 * S = round_is (2 * S) (suc log) (omega arith) (omega arith) (omega arith) (omega arith) ∙ sym t in
      rw (e, r) (omega arith)

module _ (S n : ℕ) (s : is_size S ≡ true) (l : n ≤ sampled) where
  -- S*n/32 is at most twice S
  pub estimate_most : S * n / 32 ≤ 2 * S
  estimate_most = let m : S * n ≤ S * sampled = mul-le-mul_left S l in omega arith

  pub product_fits : S * n ≤ 2 ^ greatest_log * sampled
  product_fits = le_trans (mul-le-mul_left S l) (mul-le-mul_right sampled (size_greatest S s))

  sized : (k : ℕ) × (first_size S n ≡ 2 ^ k) × (least_log ≤ k) × (k ≤ suc (log S s))
  unfolding first_size
  sized =
      let e : S * n / 32 ≤ 2 ^ suc (log S s) = subst (λ (x : ℕ). S * n / 32 ≤ x) (twice_size S s) estimate_most in
      let t : 2 ^ suc (log S s) ≤ 2 ^ 63 = pow_mono {i = suc (log S s)} {j = 63} (omega (arith, log_most S s)) in
      raised (S * n / 32) (suc (log S s)) (omega (arith, (size_power S s).low)) e (le_trans e t)

  pub first_size_power : (k : ℕ) × (first_size S n ≡ 2 ^ k) × (least_log ≤ k)
  first_size_power = let r = sized in (r.0, r.1, r.2)

  pub first_size_most : first_size S n ≤ 2 * S
  first_size_most =
      let r = sized in
      subst (λ (x : ℕ). x ≤ 2 * S) (sym r.1) (subst (λ (x : ℕ). 2 ^ r.0 ≤ x) (sym (twice_size S s)) (pow_mono {i = r.0} {j = suc (log S s)} r.3))
