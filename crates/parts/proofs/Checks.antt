-- What check 1 shows, and how the code's tests make it. Assumes nothing.
use mathlib.Core.Bool.{Bool, true, false, cond, ◌&&◌}
use mathlib.Core.List.{List}
use mathlib.Core.Path.{◌≡◌, refl, ap, ◌∙◌}
use Rattle.std.proofs.lemmas.Bool.{and_parts}
use Prim.Native.Nat.{ℕ, ◌*◌, ◌^◌, ◌≤◌}
use native.Mathlib.Nat.{le_trans, mul-le-mul_left, mul-le-mul_right}
use native.Mathlib.Omega.{arith}
use borrow.Author.Tests.{eqb-true, leb-true}
use lib.Dec.{eqb, leb}
use lib.ListN.{length}
use Rattle.rules.specs.Sizes.{is_size, greatest_log}
use Rattle.rules.specs.Cells.{shape}
use Rattle.rules.specs.Growing.{in_use}
use Rattle.steps.proofs.Sizes.{size_greatest}
use Rattle.cells.specs.Layout.{Shaped, size_in}
use Rattle.parts.specs.Halves.{half_of, of_half, are_pair, are_halves, size_fits, record_fits, lent_halves}
use Rattle.parts.specs.declared.Half.{Half}
use Rattle.parts.specs.declared.Half.TheVariants.{Lower, Upper}
use Rattle.parts.specs.declared.Growing.{Growing}

-- so many numbers to each of an allowed number of cells
pub product_most : (each C : ℕ) → each ≤ 3 → is_size C ≡ true → each * C ≤ 3 * 2 ^ greatest_log
product_most each C l e = le_trans (mul-le-mul_right C l) (mul-le-mul_left 3 (size_greatest C e))

-- both slices of a pair hold C cells
pub record Pair (each C l u : ℕ) : Type 0 where
  pub size : is_size C ≡ true
  pub lower : l ≡ each * C
  pub upper : u ≡ each * C

-- both halves hold C cells
pub record Halves (C : ℕ) (lw ld uw ud : List ℕ) : Type 0 where
  pub size : is_size C ≡ true
  pub lower_words_length : length lw ≡ 3 * C
  pub lower_deltas_length : length ld ≡ 2 * C
  pub upper_words_length : length uw ≡ 3 * C
  pub upper_deltas_length : length ud ≡ 2 * C

-- a record's size is allowed and at most C, its live at most the size
pub record Fits (C : ℕ) (g : Growing) : Type 0 where
  pub size : is_size g.size ≡ true
  pub most : g.size ≤ C
  pub live : g.table.live ≤ g.size

pub pair_holds : (each C l u : ℕ) → are_pair each C l u ≡ true → Pair each C l u
unfolding are_pair
pair_holds each C l u e =
    let a = and_parts (is_size C && eqb l (each * C)) _ e in
    let b = and_parts (is_size C) _ a.0 in
    record { size = b.0; lower = eqb-true _ _ b.1; upper = eqb-true _ _ a.1 }

pub halves_hold : (lw ld uw ud : List ℕ) → are_halves lw ld uw ud ≡ true → Halves (size_in ld) lw ld uw ud
unfolding are_halves
halves_hold lw ld uw ud e =
    let a = and_parts (are_pair 3 (size_in ld) (length lw) (length uw)) _ e in
    let w = pair_holds 3 (size_in ld) (length lw) (length uw) a.0 in
    let d = pair_holds 2 (size_in ld) (length ld) (length ud) a.1 in
    record { size = w.size; lower_words_length = w.lower; lower_deltas_length = d.lower; upper_words_length = w.upper; upper_deltas_length = d.upper }

pub size_holds : (C size : ℕ) → size_fits C size ≡ true → (is_size size ≡ true) × (size ≤ C)
unfolding size_fits
size_holds C size e = let a = and_parts _ _ e in (a.0, leb-true _ _ a.1)

pub record_holds : (C : ℕ) (g : Growing) → record_fits C g ≡ true → Fits C g
unfolding record_fits
record_holds C g e =
    let a = and_parts _ _ e in
    let b = size_holds C g.size a.0 in
    record { size = b.0; most = b.1; live = leb-true _ _ a.1 }

-- the slices of either half hold the S cells of the table
pub half_shaped : {C : ℕ} {lw ld uw ud : List ℕ} {g : Growing} → Halves C lw ld uw ud → Fits C g → (h : Half)
    → Shaped g.size (of_half (half_of h) lw uw) (of_half (half_of h) ld ud)
half_shaped a f Lower = record { size = f.size; words = omega (arith, a.lower_words_length, f.most); deltas = omega (arith, a.lower_deltas_length, f.most) }
half_shaped a f Upper = record { size = f.size; words = omega (arith, a.upper_words_length, f.most); deltas = omega (arith, a.upper_deltas_length, f.most) }

module _ (lw ld uw ud : List ℕ) (g : Growing) where
  -- what check 1 shows of all that is lent
  pub passed : are_halves lw ld uw ud && record_fits (size_in ld) g ≡ true → Halves (size_in ld) lw ld uw ud × Fits (size_in ld) g
  passed e = let a = and_parts _ _ e in (halves_hold lw ld uw ud a.0, record_holds (size_in ld) g a.1)

  -- the rule's check 1 is this test
  tested : are_halves lw ld uw ud && is_size g.size && leb g.size (size_in ld) && leb g.table.live g.size ≡ are_halves lw ld uw ud && record_fits (size_in ld) g
  unfolding record_fits size_fits
  tested = go (are_halves lw ld uw ud) (is_size g.size) (leb g.size (size_in ld)) (leb g.table.live g.size)
    where
      go : (a b c d : Bool) → a && b && c && d ≡ a && (b && c && d)
      go true b c d = refl
      go false b c d = refl

  pub shape_is : shape (in_use (lent_halves lw ld uw ud g)) ≡ cond {A = ℕ} (are_halves lw ld uw ud && record_fits (size_in ld) g) 0 1
  shape_is = ap (λ (b : Bool). cond {A = ℕ} b 0 1) tested

  pub shape_passes : are_halves lw ld uw ud && record_fits (size_in ld) g ≡ true → shape (in_use (lent_halves lw ld uw ud g)) ≡ 0
  shape_passes e = shape_is ∙ rw e

  pub shape_fails : are_halves lw ld uw ud && record_fits (size_in ld) g ≡ false → shape (in_use (lent_halves lw ld uw ud g)) ≡ 1
  shape_fails e = shape_is ∙ rw e
