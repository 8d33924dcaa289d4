-- The checker's reading of a chain, link by link. Assumes nothing.
use Rattle.std.proofs.Common.{◌≡◌, ℕ, zero, suc, ◌+◌, ◌%◌, ◌<◌, eqb, true, false, sym, ap, ◌∙◌, mod-eq_of_lt, eq-eqb, ne_eqb}
use Rattle.rules.specs.Sizes.{is_size}
use Rattle.rules.specs.Cells.{Cells}
use Rattle.rules.specs.Walk.{on}
use Rattle.sound.proofs.Positions.{position_cell, size_wraps}
use Rattle.checker.specs.Check.{of_home_test, chain_test}

module _ (S : ℕ) (cs : Cells) (h : ℕ) where
  -- a delta of 0 ends it
  pub chain_ends : (n i d : ℕ) → d ≡ 0 → true ≡ chain_test S cs h n i d
  unfolding chain_test
  chain_ends zero i d e = sym (eq-eqb d 0 e)
  chain_ends (suc n) i d e = rw (eq-eqb d 0 e)

  -- with no link left it has to end
  pub chain_last : (n i d : ℕ) → n ≡ 0 → eqb d 0 ≡ chain_test S cs h n i d
  unfolding chain_test
  chain_last n i d z = rw z

  -- one link on, to the cell j of the position q
  module _ (size : is_size S ≡ true) (n m at d q j x : ℕ) (one_less : n ≡ suc m) (e : d ≡ 0 → ⊥) (eq : q ≡ on at d) (ej : j ≡ q % S) (ex : x ≡ cs.hash j) where
    reached : (at % S + d) % S ≡ j
    reached = sym (position_cell S at d (size_wraps S size)) ∙ ap (λ (t : ℕ). t % S) (sym eq) ∙ sym ej

    -- a stranger ends it
    pub chain_stranger : of_home_test S h j x ≡ false → false ≡ chain_test S cs h n (at % S) d
    unfolding chain_test
    chain_stranger t = let t' : of_home_test S h j (cs.hash j) ≡ false = rw ex at t in rw (one_less, ne_eqb d 0 e, reached, t')

    -- a cell of the home leads on
    pub chain_on : of_home_test S h j x ≡ true → chain_test S cs h n (at % S) d ≡ chain_test S cs h m j (cs.second j)
    unfolding chain_test
    chain_on t = let t' : of_home_test S h j (cs.hash j) ≡ true = rw ex at t in rw (one_less, ne_eqb d 0 e, reached, t')

pub home_position : (S h : ℕ) → h < S → h % S ≡ h
home_position S h b = mod-eq_of_lt b
