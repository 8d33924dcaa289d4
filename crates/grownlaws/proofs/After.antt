-- What a growing insert leaves, lent again with the record that it hands back, is the rule's outcome. Assumes nothing.
use mathlib.Core.Bool.{true, false}
use mathlib.Core.List.{List, [], ◌∷◌}
use mathlib.Core.Path.{◌≡◌, refl, sym, ap, ◌∙◌}
use Prim.Native.Nat.{ℕ, ◌/◌}
use native.Mathlib.Omega.{arith}
use lib.ListN.{length}
use Rattle.hashers.specs.Keys.{hash_of}
use Rattle.rules.specs.Moves.{Became, stays}
use Rattle.rules.specs.Growing as rule
use Rattle.rules.specs.Growing.{LentHalves, GrowOutcome, refused_at, start, grow}
use Rattle.cells.specs.Layout.{null, size_in, counts_of}
use Rattle.moving.proofs.Held.{WithinAll}
use Rattle.moving.specs.Slices.{held_in, clear_held, words_become, deltas_become}
use Rattle.parts.specs.Halves.{half_of, of_half, are_halves, lent_halves}
use Rattle.halves.specs.Answers.{Four, four}
use Rattle.parts.specs.declared.Growing.{Growing}
use Rattle.parts.proofs.Checks as holds
use Rattle.parts.proofs.Checks.{halves_hold}
use Rattle.growth.specs.Growth.{GrownLeft, grow_said, lower_of, upper_of, grew_from, grown_by, grow_left}
use Rattle.growth.specs.declared.GrowAnswer.{GrowAnswer}
use Rattle.growthlaws.specs.Grown as checks
use Rattle.movelaws.specs.Plain.{held_become}
use Rattle.growthlaws.specs.Grown.{Halves, GrowChecked, is_cleared, any_move, grown}
use Rattle.growthlaws.proofs.Checks.{grow_checked, passed_shaped, fresh_halves}
use Rattle.growthlaws.proofs.Moves.{grown_where, grown_used}
use Rattle.grownlaws.specs.Meets.{lent_on, ruled, Meets, words_of, deltas_of}
use Rattle.grownlaws.proofs.Within.{changes_of, grow_within}
use Rattle.grownlaws.proofs.Became.{words_length, deltas_length, held_become_lem, same_lower, same_upper, used_holds}

-- four slices with any record are halves: where they hold C cells C is allowed, and a half that is cleared is clear
pub lent_halves_lem : (s : Four) (g : Growing) → Halves (lent_on s g)
lent_halves_lem s g =
    fresh_halves (lent_on s g) (λ e. (halves_hold s.lower_words s.lower_deltas s.upper_words s.upper_deltas e).size) refl refl

-- with no move the half in use stays
half_stays : (s : Four) (g : Growing) (k v : ℕ) → is_cleared (ruled s g k v).used ≡ false → (ruled s g k v).half ≡ half_of g.half
half_stays s g k v e =
    none (ruled s g k v).moves (grown_where (lent_on s g) (lent_halves_lem s g) k v).1 (sym (grown_used (lent_on s g) (lent_halves_lem s g) k v) ∙ e)
  where
    none : (l : List ℕ) → (ruled s g k v).half ≡ checks.half_after l (half_of g.half) → any_move l ≡ false → (ruled s g k v).half ≡ half_of g.half
    none [] q n = q
    none (T ∷ l) q n = let z : ◌≡◌ {A = ℕ} 0 1 = cc in absurd (omega arith)

-- four slices as long as four others pass the same test
same_lengths : (lw ld uw ud lw' ld' uw' ud' : List ℕ) → length lw' ≡ length lw → length ld' ≡ length ld → length uw' ≡ length uw → length ud' ≡ length ud
    → are_halves lw' ld' uw' ud' ≡ are_halves lw ld uw ud
unfolding are_halves
same_lengths lw ld uw ud lw' ld' uw' ud' a b c d = rw (a, b, c, d)

-- ---- what the rule's outcome makes of the four slices

module _ (lw ld uw ud : List ℕ) (g : Growing) (k v : ℕ) where
  abbrev l : LentHalves
  l = lent_halves lw ld uw ud g

  abbrev o : GrowOutcome
  o = grow l k v

  -- the lengths are kept, and the half in use holds what the rule says
  record Becomes (o : GrowOutcome) : Type 0 where
    lower_words_length : length (words_become (size_in ld) (lower_of o.half o.used o.spare) lw) ≡ length lw
    lower_deltas_length : length (deltas_become (size_in ld) (lower_of o.half o.used o.spare) ld) ≡ length ld
    upper_words_length : length (words_become (size_in ld) (upper_of o.half o.used o.spare) uw) ≡ length uw
    upper_deltas_length : length (deltas_become (size_in ld) (upper_of o.half o.used o.spare) ud) ≡ length ud
    holds : (x : rule.Half) → held_in (words_become (size_in ld) o.used (of_half x lw uw)) (deltas_become (size_in ld) o.used (of_half x ld ud))
        ≡ held_become (clear_held (size_in ld)) o.used (held_in (of_half x lw uw) (of_half x ld ud))

  checked : (n : ℕ) → Becomes (refused_at (start l) n 0 (stays []))
  checked n =
      record {
        lower_words_length = ap (λ (b : Became). length (words_become (size_in ld) b lw)) (same_lower (half_of g.half) (stays []));
        lower_deltas_length = ap (λ (b : Became). length (deltas_become (size_in ld) b ld)) (same_lower (half_of g.half) (stays []));
        upper_words_length = ap (λ (b : Became). length (words_become (size_in ld) b uw)) (same_upper (half_of g.half) (stays []));
        upper_deltas_length = ap (λ (b : Became). length (deltas_become (size_in ld) b ud)) (same_upper (half_of g.half) (stays []));
        holds = λ x. refl;
      }

  past : are_halves lw ld uw ud ≡ true → Becomes o
  past e =
      record {
        lower_words_length = words_length (size_in ld) (lower_of o.half o.used o.spare) lw p.lower_words_length;
        lower_deltas_length = deltas_length (size_in ld) (lower_of o.half o.used o.spare) ld p.lower_deltas_length;
        upper_words_length = words_length (size_in ld) (upper_of o.half o.used o.spare) uw p.upper_words_length;
        upper_deltas_length = deltas_length (size_in ld) (upper_of o.half o.used o.spare) ud p.upper_deltas_length;
        holds = at;
      }
    where
      p : holds.Halves (size_in ld) lw ld uw ud
      p = halves_hold lw ld uw ud e

      within : WithinAll (size_in ld) (changes_of o.used)
      within = grow_within l (lent_halves_lem (four lw ld uw ud) g) k v

      at : (x : rule.Half) → held_in (words_become (size_in ld) o.used (of_half x lw uw)) (deltas_become (size_in ld) o.used (of_half x ld ud))
          ≡ held_become (clear_held (size_in ld)) o.used (held_in (of_half x lw uw) (of_half x ld ud))
      at rule.lower = held_become_lem (size_in ld) lw ld p.size p.lower_words_length p.lower_deltas_length o.used within
      at rule.upper = held_become_lem (size_in ld) uw ud p.size p.upper_words_length p.upper_deltas_length o.used within

  becomes : Becomes o
  becomes = go _ (grow_checked l k v) refl
    where
      go : (x : GrowOutcome) → GrowChecked l k v x → o ≡ x → Becomes x
      go x (checks.by1 a e) q = rw e (checked 1)
      go x (checks.by3 a b e) q = rw e (checked 3)
      go x (checks.by2 a b d e) q = rw e (checked 2)
      go x (checks.past a b d e) q = rw (← q) (past (passed_shaped l a))

-- ---- an answer that meets the contract

-- as the contract of the growing insert stands, of slices by their names
pub as_contract : (lw ld uw ud : List ℕ) (g : Growing) (k v : ℕ) (r : GrowAnswer) (lw' ld' uw' ud' : List ℕ)
    → grown_by r lw' ld' uw' ud' ≡ grow_left (grow (lent_halves lw ld uw ud g) k v) g lw ld uw ud
    → Meets (four lw ld uw ud) g k v r (four lw' ld' uw' ud')
as_contract lw ld uw ud g k v r lw' ld' uw' ud' e = e

module _ (s : Four) (g : Growing) (k v : ℕ) (r : GrowAnswer) (s' : Four) (m : Meets s g k v r s') where
  -- it says what the rule says, with its cells looked at and its moves
  pub said_is : grow_said r.said ≡ (ruled s g k v).said
  unfolding grew_from
  said_is = ap (λ (y : GrownLeft). y.grown.said) m

  pub looked_is : r.looked ≡ (ruled s g k v).looked
  unfolding grew_from
  looked_is = ap (λ (y : GrownLeft). y.grown.looked) m

  pub moves_is : r.moves ≡ length (ruled s g k v).moves
  unfolding grew_from
  moves_is = ap (λ (y : GrownLeft). y.grown.moves) m

  -- the record has the rule's live, size and half, and the hasher that was lent
  pub counts_is : counts_of r.growing.table.live ≡ (ruled s g k v).counts
  unfolding grew_from
  counts_is = ap (λ (y : GrownLeft). y.grown.counts) m

  pub size_is : r.growing.size ≡ (ruled s g k v).size
  unfolding grew_from
  size_is = ap (λ (y : GrownLeft). y.grown.size) m

  pub half_is : half_of r.growing.half ≡ (ruled s g k v).half
  unfolding grew_from
  half_is = ap (λ (y : GrownLeft). y.grown.half) m

  pub hasher_is : r.growing.table.hasher ≡ g.table.hasher
  hasher_is = ap (λ (y : GrownLeft). y.hasher) m

  -- the slices are what the rule makes of those that were lent
  pub lower_words_is : s'.lower_words ≡ words_become (size_in s.lower_deltas) (lower_of (ruled s g k v).half (ruled s g k v).used (ruled s g k v).spare) s.lower_words
  unfolding grew_from
  lower_words_is = ap (λ (y : GrownLeft). y.grown.lower_words) m

  pub lower_deltas_is : s'.lower_deltas ≡ deltas_become (size_in s.lower_deltas) (lower_of (ruled s g k v).half (ruled s g k v).used (ruled s g k v).spare) s.lower_deltas
  unfolding grew_from
  lower_deltas_is = ap (λ (y : GrownLeft). y.grown.lower_deltas) m

  pub upper_words_is : s'.upper_words ≡ words_become (size_in s.lower_deltas) (upper_of (ruled s g k v).half (ruled s g k v).used (ruled s g k v).spare) s.upper_words
  unfolding grew_from
  upper_words_is = ap (λ (y : GrownLeft). y.grown.upper_words) m

  pub upper_deltas_is : s'.upper_deltas ≡ deltas_become (size_in s.lower_deltas) (upper_of (ruled s g k v).half (ruled s g k v).used (ruled s g k v).spare) s.upper_deltas
  unfolding grew_from
  upper_deltas_is = ap (λ (y : GrownLeft). y.grown.upper_deltas) m

  became : Becomes s.lower_words s.lower_deltas s.upper_words s.upper_deltas g k v (ruled s g k v)
  became = becomes s.lower_words s.lower_deltas s.upper_words s.upper_deltas g k v

  -- the halves have as many cells as before
  pub cells_kept : size_in s'.lower_deltas ≡ size_in s.lower_deltas
  cells_kept = ap (λ (n : ℕ). n / 2) (ap length lower_deltas_is ∙ became.lower_deltas_length)

  shaped_kept : are_halves s'.lower_words s'.lower_deltas s'.upper_words s'.upper_deltas
      ≡ are_halves s.lower_words s.lower_deltas s.upper_words s.upper_deltas
  shaped_kept =
      same_lengths s.lower_words s.lower_deltas s.upper_words s.upper_deltas s'.lower_words s'.lower_deltas s'.upper_words s'.upper_deltas
      (ap length lower_words_is ∙ became.lower_words_length) (ap length lower_deltas_is ∙ became.lower_deltas_length)
      (ap length upper_words_is ∙ became.upper_words_length) (ap length upper_deltas_is ∙ became.upper_deltas_length)

  -- the half in use holds what the rule says of it
  pub used_is : held_in (words_of (half_of r.growing.half) s') (deltas_of (half_of r.growing.half) s')
      ≡ held_become (clear_held (size_in s.lower_deltas)) (ruled s g k v).used (held_in (words_of (half_of g.half) s) (deltas_of (half_of g.half) s))
  used_is =
      (λ i. held_in (of_half (half_is i) (lower_words_is i) (upper_words_is i)) (of_half (half_is i) (lower_deltas_is i) (upper_deltas_is i)))
      ∙ used_holds (size_in s.lower_deltas) s.lower_words s.lower_deltas s.upper_words s.upper_deltas (ruled s g k v).half (half_of g.half)
      (ruled s g k v).used (ruled s g k v).spare became.holds (half_stays s g k v)

  -- what it left, lent again with the record that it handed back, is the rule's outcome
  pub lent_after_grow : lent_on s' r.growing ≡ grown (lent_on s g) (ruled s g k v)
  lent_after_grow = λ i. record {
    shaped = shaped_kept i;
    C = cells_kept i;
    size = size_is i;
    half = half_is i;
    null = null;
    hash_of = hash_of (hasher_is i);
    used = used_is i;
    clear = clear_held (cells_kept i);
    counts = counts_is i;
  }
