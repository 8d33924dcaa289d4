-- 01's worked example 8, its sizes: at 8 cells each live cell is seen 8 times. Assumes nothing.
use Rattle.std.proofs.Common.{◌≡◌, ℕ, ◌*◌, true, refl, ap, ◌∙◌, arith}
use Rattle.util.specs.Power.{first_of, round_up}
use Rattle.rules.specs.Cells.{Params, Cells, is_live}
use Rattle.rules.specs.Sizes.{is_power, is_size}
use Rattle.rules.specs.Sound.{count}
use Rattle.rules.specs.Growth.{sample, first_size}
use Rattle.sizing.proofs.Samples.{sample_small}

-- the sizes after samples of 0, 32, 40 and 64, computed
pub sizes_of_8 : (first_size 8 0 ≡ 8) × (first_size 8 32 ≡ 8) × (first_size 8 40 ≡ 16) × (first_size 8 64 ≡ 16)
unfolding first_size round_up first_of
sizes_of_8 = (refl, refl, refl, refl)

eight : is_size 8 ≡ true
unfolding is_size is_power
eight = refl

-- any table of 8 cells, wherever Full was met, by its live cells
module _ (null : ℕ) (hash_of : ℕ → ℕ) (cs : Cells) (value : ℕ → ℕ) (carried : ℕ) where
  abbrev params : Params
  params = record { S = 8; null = null; hash_of = hash_of }

  abbrev live : ℕ
  live = count (is_live params cs value) 8

  pub sample_of_8 : sample params cs value carried ≡ 8 * live
  sample_of_8 = omega (arith, sample_small params cs value carried eight (omega arith))

  sized : (n size : ℕ) → live ≡ n → first_size 8 (8 * n) ≡ size → first_size 8 (sample params cs value carried) ≡ size
  sized n size e f = ap (first_size 8) (sample_of_8 ∙ ap (λ (x : ℕ). 8 * x) e) ∙ f

  pub example_8 : (live ≡ 0 → first_size 8 (sample params cs value carried) ≡ 8)
      × (live ≡ 4 → first_size 8 (sample params cs value carried) ≡ 8)
      × (live ≡ 5 → first_size 8 (sample params cs value carried) ≡ 16)
      × (live ≡ 8 → first_size 8 (sample params cs value carried) ≡ 16)
  example_8 = (λ e. sized 0 8 e sizes_of_8.0, λ e. sized 4 8 e sizes_of_8.1, λ e. sized 5 16 e sizes_of_8.2, λ e. sized 8 16 e sizes_of_8.3)
