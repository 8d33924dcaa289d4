-- The first size as the Rust computes it is the rule's, for every allowed size and every n up to 64. Assumes nothing.
use Rattle.std.proofs.Common.{◌≡◌, ℕ, ◌*◌, ◌/◌, ◌^◌, ◌≤◌, max, true, false, T, pos, sym, refl, ap, subst, arith, le→leb}
use lib.Count.{count_trailing_zeros}
use lib.Ieee.{Float, fin, lt, binary32, mul, div, of_int, of_bits, of_fields, odd, in_float, to_unsigned}
use Rattle.util.specs.Power.{round_up}
use Rattle.rules.specs.Sizes.{is_size, least_log}
use Rattle.rules.specs.Growth.{sampled, first_size}
use Rattle.steps.proofs.Sizes.{size_power}
use Rattle.sizing.specs.Float.{sixty_four, two, estimated, first_size_f32}
use Rattle.sizing.proofs.Sizes.{log, log_most}
use Rattle.sizing.proofs.Exact as exact

module _ (S n : ℕ) (s : is_size S ≡ true) (l : n ≤ sampled) where
  log_fits : log S s ≤ 62
  log_fits = omega (arith, log_most S s)

  pub estimate_is : to_unsigned 64 (estimated S n) ≡ S * n / 32
  estimate_is = subst (λ (x : ℕ). to_unsigned 64 (estimated x n) ≡ x * n / 32) (sym (size_power S s).is) (exact.estimate_is (log S s) n log_fits l)

  -- it lies within what the cast to u64 takes
  pub estimate_above : T (lt (fin true 1 (pos 0)) (estimated S n))
  estimate_above = subst (λ (x : ℕ). T (lt (fin true 1 (pos 0)) (estimated x n))) (sym (size_power S s).is) (exact.estimate_above (log S s) n log_fits l)

  pub estimate_under : T (lt (estimated S n) (fin false 1 (pos 64)))
  estimate_under = subst (λ (x : ℕ). T (lt (estimated x n) (fin false 1 (pos 64)))) (sym (size_power S s).is) (exact.estimate_under (log S s) n log_fits l)

  -- the f32 path gives the rule's size
  pub twin_agrees : first_size_f32 S n ≡ first_size S n
  unfolding first_size_f32 first_size
  twin_agrees = ap (λ (x : ℕ). max (2 ^ least_log) (round_up x)) estimate_is

-- 64.0 and 2.0 of the code
literal_64 : of_bits binary32 1115684864 ≡ sixty_four
unfolding of_bits of_fields odd count_trailing_zeros
literal_64 = refl

literal_2 : of_bits binary32 1073741824 ≡ two
unfolding of_bits of_fields odd count_trailing_zeros
literal_2 = refl

-- what the code multiplies
abbrev pub coded : (S n : ℕ) → Float
coded S n =
    mul binary32 (mul binary32 (of_int binary32 (pos S)) (div binary32 (of_int binary32 (pos n)) (of_bits binary32 1115684864))) (of_bits binary32 1073741824)

pub coded_is : (S n : ℕ) → coded S n ≡ estimated S n
unfolding estimated
coded_is S n = rw (literal_64, literal_2)

-- whole numbers up to 2 ^ 24 are cast to f32 exactly
pub cast_fits : (n : ℕ) → n ≤ 2 ^ 24 → T (in_float binary32 (pos n))
unfolding in_float
cast_fits n h = le→leb n (2 ^ 24) h
