-- The two halves as they are lent: four slices, and the record of a growing table.
use Rattle.std.specs.Prelude.{Bool, cond, ◌&&◌, List, [], ℕ, ◌*◌, ◌/◌, eqb, leb, length, take}
use Rattle.hashers.specs.Keys.{hash_of}
use Rattle.rules.specs.Sizes.{is_size}
use Rattle.rules.specs.Growing as rule
use Rattle.rules.specs.Growing.{LentHalves, lower, upper}
use Rattle.cells.specs.Layout.{null, size_in, counts_of}
use Rattle.cells.specs.declared.Table.{Table}
use Rattle.moving.specs.Slices.{held_in, clear_held}
use Rattle.parts.specs.declared.Half.{Half}
use Rattle.parts.specs.declared.Half.TheVariants.{Lower, Upper}
use Rattle.parts.specs.declared.Growing.{Growing}

abbrev pub half_of : Half → rule.Half
half_of Lower = lower
half_of Upper = upper

-- of what the lower half has and what the upper has, that of this half
abbrev pub of_half : {A : Type 0} → rule.Half → A → A → A
of_half lower l u = l
of_half upper l u = u

-- ---- check 1

-- two lengths are those of C cells, so many numbers to a cell, for an allowed C
unfoldable pub are_pair : (each C l u : ℕ) → Bool
are_pair each C l u = is_size C && eqb l (each * C) && eqb u (each * C)

-- both halves hold C cells, with C read off the lower deltas: words and deltas of the lower half, then of the upper
unfoldable pub are_halves : (lw ld uw ud : List ℕ) → Bool
are_halves lw ld uw ud = are_pair 3 (size_in ld) (length lw) (length uw) && are_pair 2 (size_in ld) (length ld) (length ud)

-- a size is allowed, and at most C
unfoldable pub size_fits : (C size : ℕ) → Bool
size_fits C size = is_size size && leb size C

-- a record fits into halves of C cells: so does its size, and live is at most the size
unfoldable pub record_fits : ℕ → Growing → Bool
record_fits C g = size_fits C g.size && leb g.table.live g.size

-- what a call on a growing table is lent
abbrev pub lent_halves : (lw ld uw ud : List ℕ) → Growing → LentHalves
lent_halves lw ld uw ud g =
    record {
      shaped = are_halves lw ld uw ud;
      C = size_in ld;
      size = g.size;
      half = half_of g.half;
      null = null;
      hash_of = hash_of g.table.hasher;
      used = held_in (of_half (half_of g.half) lw uw) (of_half (half_of g.half) ld ud);
      clear = clear_held (size_in ld);
      counts = counts_of g.table.live;
    }

-- ---- the parts

-- the first numbers of the half in use, so many to each of its S cells; none where the lengths or the record fail check 1
unfoldable pub part : {A : Type 0} → (each C : ℕ) → List A → List A → Growing → List A
part each C l u g =
    cond (are_pair each C (length l) (length u) && record_fits C g) (take (each * g.size) (of_half (half_of g.half) l u)) []

-- its first 3S words, by the two word slices alone
abbrev pub used_words : List ℕ → List ℕ → Growing → List ℕ
used_words l u g = part 3 (length l / 3) l u g

-- its first 2S deltas, by the two delta slices alone
abbrev pub used_deltas : List ℕ → List ℕ → Growing → List ℕ
used_deltas l u g = part 2 (size_in l) l u g

-- the record with another table record
abbrev pub with_table : Growing → Table → Growing
with_table g t = record { table = t; size = g.size; half = g.half }
