-- The two branches of clear. Assumes nothing.
use mathlib.Core.Bool.{true, false}
use mathlib.Core.List.{List}
use mathlib.Core.Path.{◌≡◌, ap, ◌∙◌}
use Prim.Native.Nat.{ℕ}
use lib.ListN.{length, replicate}
use Rattle.hashers.specs.declared.Hasher.{Hasher}
use Rattle.cells.specs.Layout.{is_shaped, size_in, fresh_words}
use Rattle.cells.proofs.Shapes.{exact_lengths}
use Rattle.hashmap.specs.Answers.{cleared, refuses, clear_rule}

module _ (ws ds : List ℕ) (hasher : Hasher) where
  pub clears : is_shaped ws ds ≡ true → (ws' ds' : List ℕ) → ws' ≡ fresh_words (size_in ds) → ds' ≡ replicate {A = ℕ} (length ds) 0
      → record { said = cleared (record { hasher = hasher; live = 0 }); words = ws'; deltas = ds' } ≡ clear_rule ws ds hasher
  unfolding clear_rule
  clears e ws' ds' a b =
      let l = ap (λ (n : ℕ). replicate {A = ℕ} n 0) (exact_lengths ws ds e).1 in
      rw e (λ i. record { said = cleared (record { hasher = hasher; live = 0 }); words = a i; deltas = (b ∙ l) i })

  pub keeps : is_shaped ws ds ≡ false → record { said = refuses 1; words = ws; deltas = ds } ≡ clear_rule ws ds hasher
  unfolding clear_rule
  keeps e = rw e
