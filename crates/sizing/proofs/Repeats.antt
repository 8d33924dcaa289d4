-- Counting a test that repeats every S numbers: any m rounds of S count m times what one round counts, wherever they start.
-- Assumes nothing.
use Rattle.std.proofs.Common.{◌≡◌, ℕ, zero, suc, ◌+◌, ◌*◌, Bool, sym, refl, ap, ◌∙◌, suc-mul, arith}
use Rattle.rules.specs.Sound.{one, count}
use Rattle.sound.proofs.Counts.{count_same}

abbrev pub Repeats : (S : ℕ) → (ℕ → Bool) → Type 0
Repeats S f = (i : ℕ) → f (i + S) ≡ f i

module _ (S : ℕ) (f : ℕ → Bool) (r : Repeats S f) where
  one_round_more : (n : ℕ) → count f (n + S) ≡ count f n + count f S
  unfolding count
  one_round_more zero = let e : count f (0 + S) ≡ count f S = ap (count f) {x = 0 + S} {y = S} (omega arith) in omega arith
  one_round_more (suc n) =
      let e : count f (suc n + S) ≡ count f (suc (n + S)) = ap (count f) {x = suc n + S} {y = suc (n + S)} (omega arith) in
      omega (arith, ap one (r n), one_round_more n)

  pub rounds : (m : ℕ) → count f (m * S) ≡ m * count f S
  unfolding count
  rounds zero = let e : count f (0 * S) ≡ count f 0 = ap (count f) {x = 0 * S} {y = 0} (omega arith) in omega arith
  rounds (suc m) =
      ap (count f) (suc-mul m S) ∙ one_round_more (m * S) ∙ ap (λ (n : ℕ). n + count f S) (rounds m) ∙ sym (suc-mul m (count f S))

-- n numbers from 1 on, and n from 0 on
shifted : (f : ℕ → Bool) (n : ℕ) → one (f 0) + count (λ i. f (suc i)) n ≡ one (f n) + count f n
unfolding count
shifted f zero = refl
shifted f (suc n) = omega (arith, shifted f n)

-- a round counts the same wherever it starts
pub turned : (S : ℕ) (f : ℕ → Bool) → Repeats S f → (a : ℕ) → count (λ i. f (a + i)) S ≡ count f S
turned S f r zero = count_same f (λ i. f (0 + i)) S (λ j h. ap f (omega arith))
turned S f r (suc a) =
    let g : ℕ → Bool = λ i. f (a + i) in
    let e : count (λ i. f (suc a + i)) S ≡ count (λ i. g (suc i)) S = count_same (λ i. g (suc i)) (λ i. f (suc a + i)) S (λ j h. ap f (omega arith)) in
    let z : g S ≡ g 0 = r a ∙ ap f (omega arith) in
    omega (arith, e, shifted g S, ap one z, turned S f r a)
