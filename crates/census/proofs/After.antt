-- Two halves after a growing insert, lent again, are what the rule says. Assumes nothing.
use mathlib.Core.Bool.{true, false}
use mathlib.Core.List.{List, [], ◌∷◌}
use mathlib.Core.Path.{◌≡◌, refl, sym, ap, ◌∙◌}
use Prim.Native.Nat.{ℕ, ◌/◌}
use native.Mathlib.Omega.{arith}
use Rattle.hashers.specs.Keys.{hash_of}
use Rattle.rules.specs.Moves.{Became, stays}
use Rattle.rules.specs.Growing as rule
use Rattle.rules.specs.Growing.{LentHalves, GrowOutcome, refused_at, start, grow}
use Rattle.cells.specs.Layout.{null, size_in}
use Rattle.moving.specs.Slices.{held_in, clear_held, words_become, deltas_become}
use Rattle.parts.specs.Halves.{half_of, of_half, are_halves, lent_halves}
use Rattle.halves.specs.Answers.{four}
use Rattle.parts.specs.declared.Half.{Half}
use Rattle.parts.specs.declared.Half.TheVariants.{Lower, Upper}
use Rattle.parts.specs.declared.Growing.{Growing}
use Rattle.parts.proofs.Checks.{halves_hold}
use Rattle.growth.specs.Growth.{lower_of, upper_of, grew_from}
use Rattle.growthlaws.specs.Grown as checks
use Rattle.movelaws.specs.Plain.{held_become}
use Rattle.growthlaws.specs.Grown.{GrowChecked, is_cleared, any_move, half_after, grown}
use Rattle.growthlaws.proofs.Checks.{grow_checked, passed_shaped}
use Rattle.growthlaws.proofs.Moves.{grown_where, grown_used}
use Rattle.grownlaws.proofs.Within.{grow_within}
use Rattle.grownlaws.proofs.Became.{words_length, deltas_length, held_become_lem, used_holds}
use Rattle.grownlaws.proofs.After.{lent_halves_lem}
use Rattle.census.specs.Stores.{lent_two, half_in, two_grown}
use Rattle.census.proofs.Halves.{same_lengths}

-- a half is the one that the record says
half_again : (h : rule.Half) → half_of (half_in h) ≡ h
half_again rule.lower = refl
half_again rule.upper = refl

module _ (lw ld uw ud : List ℕ) (g : Growing) (k v : ℕ) where
  abbrev l : LentHalves
  l = lent_halves lw ld uw ud g

  abbrev o : GrowOutcome
  o = grow (lent_halves lw ld uw ud g) k v

  abbrev again : GrowOutcome → LentHalves
  again x = lent_two (two_grown (record { slices = four lw ld uw ud; growing = g }) x)

  -- a check refused it: all is left
  checked : (n : ℕ) (h : Half) → g.half ≡ h → again (refused_at (start l) n 0 (stays [])) ≡ grown l (refused_at (start l) n 0 (stays []))
  unfolding grew_from
  checked n Lower e = rw e
  checked n Upper e = rw e

  -- with no move the half in use stays
  half_stays : is_cleared o.used ≡ false → o.half ≡ half_of g.half
  half_stays e = none o.moves (grown_where l (lent_halves_lem (four lw ld uw ud) g) k v).1 (sym (grown_used l (lent_halves_lem (four lw ld uw ud) g) k v) ∙ e)
    where
      none : (x : List ℕ) → o.half ≡ half_after x (half_of g.half) → any_move x ≡ false → o.half ≡ half_of g.half
      none [] q n = q
      none (T ∷ x) q n = let z : ◌≡◌ {A = ℕ} 0 1 = cc in absurd (omega arith)

  abbrev C : ℕ
  C = size_in ld

  abbrev below : Became
  below = lower_of o.half o.used o.spare

  abbrev above : Became
  above = upper_of o.half o.used o.spare

  -- either half holds what became of it
  holds : are_halves lw ld uw ud ≡ true → (x : rule.Half)
      → held_in (words_become C o.used (of_half x lw uw)) (deltas_become C o.used (of_half x ld ud)) ≡ held_become (clear_held C) o.used (held_in (of_half x lw uw) (of_half x ld ud))
  holds e rule.lower =
      let p = halves_hold lw ld uw ud e in
      held_become_lem C lw ld p.size p.lower_words_length p.lower_deltas_length o.used (grow_within l (lent_halves_lem (four lw ld uw ud) g) k v)
  holds e rule.upper =
      let p = halves_hold lw ld uw ud e in
      held_become_lem C uw ud p.size p.upper_words_length p.upper_deltas_length o.used (grow_within l (lent_halves_lem (four lw ld uw ud) g) k v)

  past : are_halves lw ld uw ud ≡ true → again o ≡ grown l o
  unfolding grew_from
  past e =
      let p = halves_hold lw ld uw ud e in
      let d = deltas_length C below ld p.lower_deltas_length in
      let s = same_lengths lw ld uw ud (words_become C below lw) (deltas_become C below ld) (words_become C above uw) (deltas_become C above ud)
      (words_length C below lw p.lower_words_length) d (words_length C above uw p.upper_words_length) (deltas_length C above ud p.upper_deltas_length) in
      let h = half_again o.half in
      let a : held_in (of_half (half_of (half_in o.half)) (words_become C below lw) (words_become C above uw)) (of_half (half_of (half_in o.half)) (deltas_become C below ld) (deltas_become C above ud))
      ≡ held_in (of_half o.half (words_become C below lw) (words_become C above uw)) (of_half o.half (deltas_become C below ld) (deltas_become C above ud)) =
      ap (λ (x : rule.Half). held_in (of_half x (words_become C below lw) (words_become C above uw)) (of_half x (deltas_become C below ld) (deltas_become C above ud))) h in
      let u = a ∙ used_holds C lw ld uw ud o.half (half_of g.half) o.used o.spare (holds e) half_stays in
      λ i. record {
        shaped = s i;
        C = d i / 2;
        size = o.size;
        half = h i;
        null = null;
        hash_of = hash_of g.table.hasher;
        used = u i;
        clear = clear_held (d i / 2);
        counts = o.counts;
      }

  -- the halves that a growing insert leaves, lent again with its record
  pub grown_again : lent_two (two_grown (record { slices = four lw ld uw ud; growing = g }) (grow (lent_halves lw ld uw ud g) k v))
      ≡ grown (lent_halves lw ld uw ud g) (grow (lent_halves lw ld uw ud g) k v)
  grown_again = go _ (grow_checked l k v) refl
    where
      go : (x : GrowOutcome) → GrowChecked l k v x → o ≡ x → again x ≡ grown l x
      go x (checks.by1 a e) q = rw e (checked 1 g.half refl)
      go x (checks.by3 a b e) q = rw e (checked 3 g.half refl)
      go x (checks.by2 a b d e) q = rw e (checked 2 g.half refl)
      go x (checks.past a b d e) q = rw (← q) (past (passed_shaped l a))
