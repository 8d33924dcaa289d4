-- What a sample counts: at most 64; below 64 cells each cell 64/S times. So S*n/32 is whole for every sample. Assumes nothing.
use Rattle.std.proofs.Common.{◌≡◌, ℕ, ◌+◌, ◌-◌, ◌*◌, ◌%◌, ◌^◌, ◌<◌, ◌≤◌, Bool, true, not, ◌&&◌, eqb, sym, refl, ap, ◌∙◌, subst, mod-eq_of_lt, mul_assoc, mul_comm, mul_right_comm, arith, pow-add, eq-eqb, ne_eqb}
use native.Mathlib.Decide.{dec_le, ℕ_discrete}
use native.Mathlib.Nat.{add-mod_right, mul-mod_left}
use lib.Pow.{mod-mod-pow}
use Rattle.rules.specs.Sizes.{is_size}
use Rattle.rules.specs.Cells.{Params, Cells, Counts, is_live}
use Rattle.rules.specs.Walk.{on}
use Rattle.rules.specs.Sound.{count, LiveCounts}
use Rattle.rules.specs.Growth.{sampled, sample_start, sample}
use Rattle.steps.proofs.Sizes.{size_power, log_least}
use Rattle.cells.proofs.Shapes.{cell_lt}
use Rattle.sound.proofs.Counts.{count_same, count_most}
use Rattle.sizing.proofs.Repeats.{Repeats, rounds, turned}

-- 2 ^ 64 is a multiple of the size: a wrapped position has the cell of the whole sum
pub wrapped_cell : (k n : ℕ) → k ≤ 64 → n % 2 ^ 64 % 2 ^ k ≡ n % 2 ^ k
wrapped_cell k n h = ap (λ (j : ℕ). n % 2 ^ j % 2 ^ k) {x = 64} {y = 64 - k + k} (omega arith) ∙ mod-mod-pow n (64 - k) k

module _ (f : ℕ → Bool) (k start : ℕ) (h : k ≤ 6) where
  abbrev cell : ℕ → Bool
  cell i = f (i % 2 ^ k)

  again : Repeats (2 ^ k) cell
  again i = ap f (add-mod_right i (2 ^ k))

  seen_again : Repeats (2 ^ k) (λ i. cell (start + i))
  seen_again i = ap f (ap (λ (j : ℕ). j % 2 ^ k) {x = start + (i + 2 ^ k)} {y = start + i + 2 ^ k} (omega arith) ∙ add-mod_right (start + i) (2 ^ k))

  whole : 2 ^ (6 - k) * 2 ^ k ≡ sampled
  whole = sym (pow-add 2 (6 - k) k) ∙ ap (λ (j : ℕ). 2 ^ j) {x = 6 - k + k} {y = 6} (omega arith)

  -- 64 positions are 64/S rounds of S cells
  counted : count (λ i. f (on start i % 2 ^ k)) sampled ≡ 2 ^ (6 - k) * count f (2 ^ k)
  counted =
      count_same (λ i. cell (start + i)) (λ i. f (on start i % 2 ^ k)) sampled (λ j l. ap f (wrapped_cell k (start + j) (omega arith)))
      ∙ ap (λ (n : ℕ). count (λ i. cell (start + i)) n) (sym whole)
      ∙ rounds (2 ^ k) (λ i. cell (start + i)) seen_again (2 ^ (6 - k))
      ∙ ap (λ (n : ℕ). 2 ^ (6 - k) * n)
      (turned (2 ^ k) cell again start ∙ count_same f cell (2 ^ k) (λ j l. ap f (mod-eq_of_lt l)))

small : (f : ℕ → Bool) (S k start : ℕ) → S ≡ 2 ^ k → k ≤ 6 → S * count (λ i. f (on start i % S)) sampled ≡ sampled * count f S
small f S k start e h =
    rw (e, counted f k start h)
    (sym (mul_assoc (2 ^ k) (2 ^ (6 - k)) (count f (2 ^ k)))
    ∙ ap (λ (n : ℕ). n * count f (2 ^ k)) (mul_comm (2 ^ k) (2 ^ (6 - k)) ∙ whole f k start h))

large : (S k n : ℕ) → S ≡ 2 ^ k → 5 ≤ k → (S * n) % 32 ≡ 0
large S k n e h =
    let w : S ≡ 2 ^ (k - 5) * 32 = e ∙ ap (λ (j : ℕ). 2 ^ j) {x = k} {y = k - 5 + 5} (omega arith) ∙ pow-add 2 (k - 5) 5 in
    rw w (ap (λ (m : ℕ). m % 32) (mul_right_comm (2 ^ (k - 5)) 32 n) ∙ mul-mod_left (2 ^ (k - 5) * n) 32)

valued : (h v null : ℕ) → (h ≡ 0 → v ≡ null) → not (eqb v null) ≡ not (eqb h 0) && not (eqb v null)
valued h v null e = go (ℕ_discrete h 0)
  where
    go : Dec (h ≡ 0) → not (eqb v null) ≡ not (eqb h 0) && not (eqb v null)
    go (yes z) = rw (eq-eqb h 0 z, eq-eqb v null (e z))
    go (no n) = rw (ne_eqb h 0 n)

-- a sample reads the cells below S alone
reads_below : (f g : ℕ → Bool) (S start : ℕ) → is_size S ≡ true → ((i : ℕ) → i < S → g i ≡ f i) → count (λ i. g (on start i % S)) sampled ≡ count (λ i. f (on start i % S)) sampled
reads_below f g S start s e =
    count_same (λ i. f (on start i % S)) (λ i. g (on start i % S)) sampled (λ j l. e (on start j % S) (cell_lt S (on start j) (on start j % S) s refl))

module _ (p : Params) (cs : Cells) (value : ℕ → ℕ) (carried : ℕ) where
  -- n is at most 64
  pub sample_most : sample p cs value carried ≤ sampled
  unfolding sample
  sample_most = count_most (λ i. is_live p cs value (on (sample_start carried) i % p.S)) sampled

  module _ (s : is_size p.S ≡ true) where
    -- up to 64 cells: S * n is 64 times the live cells
    pub sample_small : p.S ≤ sampled → p.S * sample p cs value carried ≡ sampled * count (is_live p cs value) p.S
    unfolding sample
    sample_small l =
        let t = size_power p.S s in
        small (is_live p cs value) p.S t.log (sample_start carried) t.is (log_least t.log 6 (subst (λ (x : ℕ). x ≤ 2 ^ 6) t.is l))

    -- S*n/32 is always whole
    pub sample_whole : (p.S * sample p cs value carried) % 32 ≡ 0
    sample_whole = go (dec_le p.S sampled)
      where
        go : Dec (p.S ≤ sampled) → (p.S * sample p cs value carried) % 32 ≡ 0
        go (yes l) = omega (arith, sample_small l)
        go (no l) =
            let t = size_power p.S s in
            large p.S t.log (sample p cs value carried) t.is (log_least 5 t.log (subst (λ (x : ℕ). 2 ^ 5 ≤ x) t.is (omega arith)))

    -- where the record counts right, S * n is 64 times its live
    pub sample_live : (c : Counts) → LiveCounts p cs value c → p.S ≤ sampled → p.S * sample p cs value carried ≡ sampled * c.live
    sample_live c e l = sample_small l ∙ ap (λ (n : ℕ). sampled * n) (sym e)

    -- tables whose cells below S are live alike have the same sample
    pub sample_same : (cs' : Cells) (value' : ℕ → ℕ) → ((i : ℕ) → i < p.S → is_live p cs' value' i ≡ is_live p cs value i) → sample p cs' value' carried ≡ sample p cs value carried
    unfolding sample
    sample_same cs' value' e = reads_below (is_live p cs value) (is_live p cs' value') p.S (sample_start carried) s e

    -- the Rust counts values that are not null: the same, where no cell of hash 0 has a value
    pub sample_valued : ((i : ℕ) → i < p.S → cs.hash i ≡ 0 → value i ≡ p.null)
        → count (λ i. not (eqb (value (on (sample_start carried) i % p.S)) p.null)) sampled ≡ sample p cs value carried
    unfolding sample
    sample_valued e =
        reads_below (is_live p cs value) (λ i. not (eqb (value i) p.null)) p.S (sample_start carried) s
        (λ i l. valued (cs.hash i) (value i) p.null (e i l))
