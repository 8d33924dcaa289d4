-- After Full, where the tail and the whole window past it are live, the sample is 64 and the first size is twice S. Assumes nothing.
use Rattle.std.proofs.Common.{◌≡◌, ℕ, ◌+◌, ◌-◌, ◌*◌, ◌%◌, ◌^◌, ◌<◌, ◌≤◌, Bool, true, not, sym, ap, ◌∙◌, subst, mod-lt, arith}
use native.Mathlib.Decide.{dec_le}
use native.Mathlib.Nat.{add-mod-mod}
use Rattle.rules.specs.Sizes.{is_size, probe_limit, window}
use Rattle.rules.specs.Cells.{Params, Cells, is_live}
use Rattle.rules.specs.Walk.{on}
use Rattle.rules.specs.Sound.{count}
use Rattle.rules.specs.Growth.{sampled, sample_start, sample, first_size}
use Rattle.steps.proofs.Sizes.{size_power, size_least}
use Rattle.sound.proofs.Counts.{count_none, count_split}
use Rattle.sizing.proofs.Sizes.{log, log_most, first_size_full}
use Rattle.sizing.proofs.Samples.{wrapped_cell}

wrapped : (S n : ℕ) → is_size S ≡ true → n % 2 ^ 64 % S ≡ n % S
wrapped S n s = subst (λ (x : ℕ). n % 2 ^ 64 % x ≡ n % x) (sym (size_power S s).is) (wrapped_cell (log S s) n (omega (arith, log_most S s)))

all_pass : (f : ℕ → Bool) (n : ℕ) → ((j : ℕ) → j < n → f j ≡ true) → count f n ≡ n
all_pass f n e = omega (arith, count_split f n, count_none (λ i. not (f i)) n (λ j h. ap not (e j h)))

-- how far past the tail the sample's position i lies, when Full carried tail + P + 1
abbrev past : (S i : ℕ) → ℕ
past S i = window S + 1 + (2 ^ 64 - sampled) + i

position : (S tail i : ℕ) → on (sample_start (on tail (window S + 1))) i ≡ on tail (past S i)
position S tail i = omega arith

-- up to 128 cells the tail and the window are all of them
all_cells : (S tail i : ℕ) → is_size S ≡ true → on tail (past S i) % S ≡ on tail (past S i % S) % S
all_cells S tail i s = wrapped S (tail + past S i) s ∙ sym (add-mod-mod tail (past S i) S) ∙ sym (wrapped S (tail + past S i % S) s)

-- above that the sample is the last 64 of the window
last_cells : (S tail i : ℕ) → probe_limit < S → on tail (past S i) ≡ on tail (probe_limit + 1 - sampled + i)
last_cells S tail i l = omega arith

module _ (p : Params) (cs : Cells) (value : ℕ → ℕ) (tail : ℕ) (s : is_size p.S ≡ true)
    (live : (j : ℕ) → j ≤ window p.S → is_live p cs value (on tail j % p.S) ≡ true) where
  seen : (i : ℕ) → i < sampled → is_live p cs value (on (sample_start (on tail (window p.S + 1))) i % p.S) ≡ true
  seen i h = ap (λ (x : ℕ). is_live p cs value (x % p.S)) (position p.S tail i) ∙ go (dec_le p.S probe_limit)
    where
      go : Dec (p.S ≤ probe_limit) → is_live p cs value (on tail (past p.S i) % p.S) ≡ true
      go (yes l) =
          let b = size_least p.S s in
          let m = mod-lt (past p.S i) {m = p.S} (omega arith) in
          ap (is_live p cs value) (all_cells p.S tail i s) ∙ live (past p.S i % p.S) (omega arith)
      go (no l) =
          ap (λ (x : ℕ). is_live p cs value (x % p.S)) (last_cells p.S tail i (omega arith))
          ∙ live (probe_limit + 1 - sampled + i) (omega arith)

  pub sample_full : sample p cs value (on tail (window p.S + 1)) ≡ sampled
  unfolding sample
  sample_full = all_pass (λ i. is_live p cs value (on (sample_start (on tail (window p.S + 1))) i % p.S)) sampled seen

  pub full_doubles : first_size p.S (sample p cs value (on tail (window p.S + 1))) ≡ 2 * p.S
  full_doubles = ap (first_size p.S) sample_full ∙ first_size_full p.S s
