-- Two halves after an outcome of the table in use, or after a growing insert, lent again: the table in use is the rules'. Assumes
-- nothing.
use mathlib.Core.Bool.{◌&&◌}
use mathlib.Core.List.{List}
use mathlib.Core.Logic.{◌⊎◌, inl, inr}
use mathlib.Core.Path.{◌≡◌, refl}
use Prim.Native.Nat.{ℕ, ◌/◌}
use native.Mathlib.Omega.{arith}
use lib.Dec.{leb}
use lib.ListN.{length}
use Rattle.hashers.specs.Keys.{hash_of}
use Rattle.rules.specs.Sizes.{is_size}
use Rattle.rules.specs.Cells.{Lent, shape}
use Rattle.rules.specs.Answers.{nothing, Outcome}
use Rattle.rules.specs.Moves.{Held, held_after}
use Rattle.rules.specs.Growing as rule
use Rattle.rules.specs.Growing.{LentHalves, in_use}
use Rattle.cells.specs.Layout.{Shaped, null, words_after, deltas_after}
use Rattle.cells.proofs.Views.{Within}
use Rattle.moving.specs.Slices.{held_in}
use Rattle.moving.proofs.Held.{held_changed, words_kept, deltas_kept}
use Rattle.sound.specs.State.{after}
use Rattle.parts.specs.Halves.{half_of, of_half, are_halves, lent_halves}
use Rattle.halves.specs.Answers.{four, in_lower, in_upper, halves_by}
use Rattle.parts.specs.declared.Growing.{Growing}
use Rattle.parts.proofs.Checks.{halves_hold}
use Rattle.growthlaws.proofs.Checks.{passed_shaped, passed_size, passed_most}
use Rattle.census.specs.Stores.{halved, table_in, left}

-- an outcome changes nothing; or check 1 passed, and the change is within the table's cells
abbrev pub Placed : Lent → Outcome → Type 0
Placed l o = (o.change ≡ nothing) ⊎ ((shape l ≡ 0) × Within l.params.S o.change)

-- ---- a change of one half

lower_length : (h : rule.Half) (f : List ℕ → List ℕ) → ((l : List ℕ) → length (f l) ≡ length l) → (l : List ℕ) → length (in_lower h f l) ≡ length l
lower_length rule.lower f e l = e l
lower_length rule.upper f e l = refl

upper_length : (h : rule.Half) (f : List ℕ → List ℕ) → ((l : List ℕ) → length (f l) ≡ length l) → (l : List ℕ) → length (in_upper h f l) ≡ length l
upper_length rule.lower f e l = refl
upper_length rule.upper f e l = e l

pub same_lengths : (lw ld uw ud lw' ld' uw' ud' : List ℕ) → length lw' ≡ length lw → length ld' ≡ length ld → length uw' ≡ length uw → length ud' ≡ length ud
    → are_halves lw' ld' uw' ud' ≡ are_halves lw ld uw ud
unfolding are_halves
same_lengths lw ld uw ud lw' ld' uw' ud' a b c d = rw (a, b, c, d)

module _ (lw ld uw ud : List ℕ) (g : Growing) (o : Outcome) where
  abbrev l : LentHalves
  l = lent_halves lw ld uw ud g

  abbrev held_at : rule.Half → Held
  held_at h = held_in (of_half h lw uw) (of_half h ld ud)

  abbrev changed_at : rule.Half → Held
  changed_at h =
      held_in (of_half h (in_lower h (words_after o.change) lw) (in_upper h (words_after o.change) uw))
      (of_half h (in_lower h (deltas_after o.change) ld) (in_upper h (deltas_after o.change) ud))

  -- the half in use holds what it held, changed so
  held : (h : rule.Half) → ((o.change ≡ nothing) ⊎ (Shaped g.size (of_half h lw uw) (of_half h ld ud) × Within g.size o.change))
      → changed_at h ≡ held_after o.change (held_at h)
  held rule.lower (inl e) = rw e
  held rule.upper (inl e) = rw e
  held rule.lower (inr w) = held_changed w.0 o.change w.1
  held rule.upper (inr w) = held_changed w.0 o.change w.1

  shaped : shape (in_use l) ≡ 0 → (h : rule.Half) → Shaped g.size (of_half h lw uw) (of_half h ld ud)
  shaped e rule.lower =
      let m = halves_hold lw ld uw ud (passed_shaped l e) in
      record { size = passed_size l e; words = omega (arith, m.lower_words_length, passed_most l e); deltas = omega (arith, m.lower_deltas_length, passed_most l e) }
  shaped e rule.upper =
      let m = halves_hold lw ld uw ud (passed_shaped l e) in
      record { size = passed_size l e; words = omega (arith, m.upper_words_length, passed_most l e); deltas = omega (arith, m.upper_deltas_length, passed_most l e) }

  in_use_lem : Placed (in_use l) o → changed_at (half_of g.half) ≡ held_after o.change (held_at (half_of g.half))
  in_use_lem (inl e) = held (half_of g.half) (inl e)
  in_use_lem (inr w) = held (half_of g.half) (inr (shaped w.0 (half_of g.half), w.1))

  abbrev h : rule.Half
  h = half_of g.half

  -- the halves after the outcome, lent again
  pub halved_after : Placed (in_use (lent_halves lw ld uw ud g)) o
      → table_in (left (halved (record { slices = four lw ld uw ud; growing = g })) o) ≡ after (in_use (lent_halves lw ld uw ud g)) o
  unfolding halves_by
  halved_after w =
      let words = words_kept o.change in
      let deltas = deltas_kept o.change in
      let a = lower_length h (deltas_after o.change) deltas ld in
      let e = same_lengths lw ld uw ud (in_lower h (words_after o.change) lw) (in_lower h (deltas_after o.change) ld) (in_upper h (words_after o.change) uw)
      (in_upper h (deltas_after o.change) ud) (lower_length h (words_after o.change) words lw) a (upper_length h (words_after o.change) words uw)
      (upper_length h (deltas_after o.change) deltas ud) in
      let q = in_use_lem w in
      λ i. record {
        shaped = e i && is_size g.size && leb g.size (a i / 2);
        params = record { S = g.size; null = null; hash_of = hash_of g.table.hasher };
        cells = (q i).cells;
        value = (q i).value;
        counts = o.counts;
      }
