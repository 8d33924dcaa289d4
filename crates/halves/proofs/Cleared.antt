-- The branches of clearing both halves. Assumes nothing.
use mathlib.Core.Bool.{true, false}
use mathlib.Core.List.{List}
use mathlib.Core.Path.{◌≡◌}
use Prim.Native.Nat.{ℕ}
use Rattle.hashers.specs.declared.Hasher.{Hasher}
use Rattle.cells.specs.Layout.{size_in, fresh_words, fresh_deltas}
use Rattle.parts.specs.Halves.{are_halves, size_fits}
use Rattle.halves.specs.Answers.{four, cleared, refuses, fresh_growing, clear_halves_rule}

module _ (lw ld uw ud : List ℕ) (size : ℕ) (hasher : Hasher) where
  module _ (e : are_halves lw ld uw ud ≡ true) where
    pub clears : size_fits (size_in ld) size ≡ true → (lw' ld' uw' ud' : List ℕ)
        → lw' ≡ fresh_words (size_in ld) → ld' ≡ fresh_deltas (size_in ld) → uw' ≡ fresh_words (size_in ld) → ud' ≡ fresh_deltas (size_in ld)
        → record { said = cleared (fresh_growing size hasher); left = four lw' ld' uw' ud' } ≡ clear_halves_rule lw ld uw ud size hasher
    unfolding clear_halves_rule
    clears f lw' ld' uw' ud' a b c d =
        rw (e, f) (λ i. record { said = cleared (fresh_growing size hasher); left = four (a i) (b i) (c i) (d i) })

    pub keeps_size : size_fits (size_in ld) size ≡ false → record { said = refuses 1; left = four lw ld uw ud } ≡ clear_halves_rule lw ld uw ud size hasher
    unfolding clear_halves_rule
    keeps_size f = rw (e, f)

  pub keeps_halves : are_halves lw ld uw ud ≡ false → record { said = refuses 1; left = four lw ld uw ud } ≡ clear_halves_rule lw ld uw ud size hasher
  unfolding clear_halves_rule
  keeps_halves e = rw e
