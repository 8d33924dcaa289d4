-- Where every taken cell of a table is live, Full makes twice its size the first to try. The table may be unsound: its tail may be
-- empty, and the sample still holds more than half live cells. Assumes nothing.
use mathlib.Core.Bool.{Bool, true, not}
use mathlib.Core.Logic.{◌≢◌}
use mathlib.Core.Path.{◌≡◌, refl, sym, ap, subst, ◌∙◌}
use Prim.Native.Nat.{ℕ, zero, suc, ◌+◌, ◌-◌, ◌*◌, ◌/◌, ◌%◌, ◌^◌, ◌≤◌, ◌<◌, max}
use native.Mathlib.Decide.{ℕ_discrete, dec_le}
use native.Mathlib.Nat.{mod-lt, mod-eq_of_lt, add-mod_right, mul_comm, mul-le-mul_left, pow-suc}
use native.Mathlib.Omega.{arith}
use borrow.Author.Tests.{eqb-true}
use Rattle.util.specs.Power.{round_up}
use Rattle.util.proofs.Powers.{round_is}
use Rattle.rules.specs.Sizes.{is_size, least_log, window}
use Rattle.rules.specs.Cells.{Params, Cells, Counts, is_live}
use Rattle.rules.specs.Walk.{on}
use Rattle.rules.specs.Answers.{Said, found, absent, new, replaced, revived, removed, refused, Outcome}
use Rattle.rules.specs.Calls.{insert_stored}
use Rattle.rules.specs.Sound.{one, count}
use Rattle.rules.specs.Growth.{sampled, sample_start, sample, first_size}
use Rattle.rules.specs.Growing.{carried_by, is_full}
use Rattle.steps.proofs.Sizes.{size_power, size_least, size_greatest}
use Rattle.cells.proofs.Shapes.{cell_lt}
use Rattle.laws.specs.Full.{FullWhen, IsFull}
use Rattle.laws.proofs.Full.{stored_full, stored_full_exactly}
use Rattle.sound.specs.Built.{AllLive}
use Rattle.sound.proofs.Counts.{count_none, count_split}
use Rattle.sound.proofs.Positions.{position_cell, size_wraps}
use Rattle.sound.proofs.Live.{is_live_lem}
use Rattle.sizing.proofs.Samples.{sample_most, sample_small}

-- ---- counting

all_pass : (f : ℕ → Bool) (n : ℕ) → ((j : ℕ) → j < n → f j ≡ true) → count f n ≡ n
all_pass f n e = omega (arith, count_split f n, count_none (λ i. not (f i)) n (λ j l. ap not (e j l)))

-- all numbers below n but one pass
most_pass : (f : ℕ → Bool) (x n : ℕ) → ((j : ℕ) → j < n → j ≢ x → f j ≡ true) → n ≤ suc (count f n)
unfolding count
most_pass f x zero e = omega arith
most_pass f x (suc n) e = go (ℕ_discrete n x) (most_pass f x n (λ j l. e j (omega arith)))
  where
    go : Dec (n ≡ x) → n ≤ suc (count f n) → suc n ≤ suc (one (f n) + count f n)
    go (yes q) ih = omega (arith, all_pass f n (λ j l. e j (omega arith) (λ (y : j ≡ x). omega arith)))
    go (no q) ih = omega (arith, ap one (e n (omega arith) q))

-- ---- the size

-- at least 56 of 64 live: S*n/32 lies above S and at most at twice S
doubled : (S x : ℕ) → is_size S ≡ true → 56 * S ≤ x → x ≤ 64 * S → max (2 ^ least_log) (round_up (x / 32)) ≡ 2 * S
doubled S x s lo hi =
    let b = size_least S s in
    let g = size_greatest S s in
    let p = size_power S s in
    let t : 2 ^ suc p.log ≡ 2 * S = pow-suc 2 p.log ∙ mul_comm (2 ^ p.log) 2 ∙ ap (λ (y : ℕ). 2 * y) (sym p.is) in
    let r : round_up (x / 32) ≡ 2 * S = round_is (x / 32) (suc p.log) (omega arith) (omega arith) (omega arith) (omega arith) ∙ t in
    rw r (omega arith)

-- ---- where the window past a tail is live

-- up to 64 cells, every cell but the tail's is in the window
in_window : (S tail i : ℕ) → is_size S ≡ true → S ≤ sampled → i < S → i ≢ tail % S → (j : ℕ) × (1 ≤ j) × (j ≤ window S) × (on tail j % S ≡ i)
in_window S tail i s l u n = go (dec_le i (tail % S))
  where
    go : Dec (i ≤ tail % S) → (j : ℕ) × (1 ≤ j) × (j ≤ window S) × (on tail j % S ≡ i)
    go (yes y) =
        let m = mod-lt tail {m = S} (omega arith) in
        let q : tail % S + (i + S - tail % S) ≡ i + S = omega arith in (
          i + S - tail % S,
          omega arith,
          omega arith,
          position_cell S tail (i + S - tail % S) (size_wraps S s) ∙ ap (λ (x : ℕ). x % S) q ∙ add-mod_right i S ∙ mod-eq_of_lt u,
        )
    go (no y) =
        let q : tail % S + (i - tail % S) ≡ i = omega arith in (
          i - tail % S,
          omega arith,
          omega arith,
          position_cell S tail (i - tail % S) (size_wraps S s) ∙ ap (λ (x : ℕ). x % S) q ∙ mod-eq_of_lt u,
        )

-- above 64 cells the sample lies within the window
within : (tail w i : ℕ) → sampled ≤ w → on (sample_start (on tail (w + 1))) i ≡ on tail (w + 1 - sampled + i)
within tail w i l = omega arith

module _ (p : Params) (cs : Cells) (value : ℕ → ℕ) (tail : ℕ) (s : is_size p.S ≡ true)
    (live : (j : ℕ) → 1 ≤ j → j ≤ window p.S → is_live p cs value (on tail j % p.S) ≡ true) where
  -- up to 64 cells: every cell but the tail's is live
  cell_live : p.S ≤ sampled → (i : ℕ) → i < p.S → i ≢ tail % p.S → is_live p cs value i ≡ true
  cell_live l i u n =
      let w = in_window p.S tail i s l u n in
      subst (λ (x : ℕ). is_live p cs value x ≡ true) w.3 (live w.0 w.1 w.2)

  -- above: the whole sample is
  seen : sampled < p.S → (i : ℕ) → i < sampled → is_live p cs value (on (sample_start (on tail (window p.S + 1))) i % p.S) ≡ true
  seen l i u =
      ap (λ (x : ℕ). is_live p cs value (x % p.S)) (within tail (window p.S) i (omega arith)) ∙ live (window p.S + 1 - sampled + i) (omega arith) (omega arith)

  -- at least 56 of the 64 are live
  nearly : 56 * p.S ≤ p.S * sample p cs value (on tail (window p.S + 1))
  unfolding sample
  nearly = go (dec_le p.S sampled)
    where
      go : Dec (p.S ≤ sampled) → 56 * p.S ≤ p.S * sample p cs value (on tail (window p.S + 1))
      go (yes l) =
          omega (
            arith,
            size_least p.S s,
            sample_small p cs value (on tail (window p.S + 1)) s l,
            most_pass (is_live p cs value) (tail % p.S) p.S (cell_live l),
          )
      go (no l) =
          rw (all_pass (λ i. is_live p cs value (on (sample_start (on tail (window p.S + 1))) i % p.S)) sampled (seen (omega arith))) (omega arith)

  -- the first size is twice the table's
  pub window_doubles : first_size p.S (sample p cs value (on tail (window p.S + 1))) ≡ 2 * p.S
  unfolding first_size
  window_doubles =
      let m = mul-le-mul_left p.S (sample_most p cs value (on tail (window p.S + 1))) in
      doubled p.S (p.S * sample p cs value (on tail (window p.S + 1))) s nearly (omega arith)

-- ---- after Full

-- what the rules test is what the laws speak of
pub full_said : (s : Said) → is_full s ≡ true → IsFull s
full_said (refused n l) e = record { carried = l; says = ap (λ (n : ℕ). refused n l) (eqb-true n 4 e) }
full_said (found v) e = let z : ◌≡◌ {A = ℕ} 0 1 = cc in absurd (omega arith)
full_said absent e = let z : ◌≡◌ {A = ℕ} 0 1 = cc in absurd (omega arith)
full_said new e = let z : ◌≡◌ {A = ℕ} 0 1 = cc in absurd (omega arith)
full_said (replaced v) e = let z : ◌≡◌ {A = ℕ} 0 1 = cc in absurd (omega arith)
full_said revived e = let z : ◌≡◌ {A = ℕ} 0 1 = cc in absurd (omega arith)
full_said (removed v) e = let z : ◌≡◌ {A = ℕ} 0 1 = cc in absurd (omega arith)

pub said_full : (s : Said) → IsFull s → is_full s ≡ true
said_full s f = ap is_full f.says

module _ (p : Params) (cs : Cells) (value : ℕ → ℕ) (c : Counts) (h k v : ℕ) (s : is_size p.S ≡ true) (a : AllLive p cs value) where
  -- a table of an allowed size where every taken cell is live: after Full the first size to try is twice its size
  pub full_doubles : IsFull (insert_stored p.S p.null cs value c h k v).said
      → first_size p.S (sample p cs value (carried_by (insert_stored p.S p.null cs value c h k v).said)) ≡ 2 * p.S
  full_doubles f = go ((stored_full_exactly p.S p.null cs value c h k v).0 f)
    where
      go : FullWhen p.S cs h k → first_size p.S (sample p cs value (carried_by (insert_stored p.S p.null cs value c h k v).said)) ≡ 2 * p.S
      go w =
          ap (λ (o : Outcome). first_size p.S (sample p cs value (carried_by o.said))) (stored_full p.S p.null cs value c h k v w)
          ∙ window_doubles p cs value w.last s
          (λ j l m. is_live_lem p cs value (on w.last j % p.S) (w.window_taken j l m)
          (a (on w.last j % p.S) (cell_lt p.S (on w.last j) (on w.last j % p.S) s refl) (w.window_taken j l m)))
