-- The checker's loop over the cells: those passed so far passed the test, and the live ones are counted. Assumes nothing.
use Rattle.std.proofs.Common.{◌≡◌, ℕ, zero, suc, ◌+◌, ◌<◌, ◌≤◌, Bool, true, false, ◌&&◌, eqb, refl, add_comm, add-one, arith}
use mir.Val.{bool_byte}
use Rattle.std.proofs.lemmas.Bool.{and_right}
use native.Mathlib.Decide.{ℕ_discrete}
use Rattle.rules.specs.Cells.{Params, Cells, Counts, Lent, is_live, shape}
use Rattle.rules.specs.Sound.{one, count}
use Rattle.checker.specs.Check.{all, cell_test, sound_test, sound, refused, check_rule}

module _ (test : ℕ → Bool) where
  pub all_none : all test 0 ≡ true
  unfolding all
  all_none = refl

  pub all_more : (n : ℕ) → all test n ≡ true → test n ≡ true → all test (n + 1) ≡ true
  unfolding all
  all_more n e t = rw add-one (rw (e, t))

  pub all_fails : (n i : ℕ) → i < n → test i ≡ false → all test n ≡ false
  unfolding all
  all_fails zero i l t = absurd (omega arith)
  all_fails (suc n) i l t = go (λ m. all_fails n i m t) (ℕ_discrete i n)
    where
      go : (i < n → all test n ≡ false) → Dec (i ≡ n) → all test n && test n ≡ false
      go ih (yes e) = rw (← e, t) (and_right (all test i) false refl)
      go ih (no f) = rw (ih (omega arith))

  pub count_none : count test 0 ≡ 0
  unfolding count
  count_none = refl

  pub count_more : (n seen x : ℕ) → seen ≡ count test n → x ≡ one (test n) → seen + x ≡ count test (n + 1)
  unfolding count
  count_more n seen x e ex = rw add-one (rw (e, ex) (add_comm (count test n) (one (test n))))

  pub one_most : (b : Bool) → one b ≤ 1
  one_most true = omega arith
  one_most false = omega arith

module _ (p : Params) (cs : Cells) (value : ℕ → ℕ) (c : Counts) where
  -- a cell that fails
  pub sound_fails : (i : ℕ) → i < p.S → cell_test p cs value i ≡ false → false ≡ sound_test p cs value c
  unfolding sound_test
  sound_fails i l t = rw (all_fails (cell_test p cs value) p.S i l t)

  -- no cell fails
  pub sound_counts : (i seen : ℕ) → i ≡ p.S → all (cell_test p cs value) i ≡ true → seen ≡ count (is_live p cs value) i → eqb c.live seen ≡ sound_test p cs value c
  unfolding sound_test
  sound_counts i seen ei e es =
      let e' : all (cell_test p cs value) p.S ≡ true = rw ei at e in
      let s' : seen ≡ count (is_live p cs value) p.S = rw ei at es in
      rw (e', s')

-- a bit counts one where it is set
pub bit_counts : (b : Bool) → bool_byte b ≡ one b
bit_counts true = refl
bit_counts false = refl

-- ---- the call

module _ (l : Lent) where
  pub check_shape : shape l ≡ 1 → refused 1 ≡ check_rule l
  unfolding check_rule
  check_shape e = rw e

  pub check_yes : shape l ≡ 0 → sound_test l.params l.cells l.value l.counts ≡ true → sound ≡ check_rule l
  unfolding check_rule
  check_yes e t = rw (e, t)

  pub check_no : shape l ≡ 0 → sound_test l.params l.cells l.value l.counts ≡ false → refused 9 ≡ check_rule l
  unfolding check_rule
  check_no e t = rw (e, t)
