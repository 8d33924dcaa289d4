-- What the calls on two halves say and leave: each case by 01's number and values.
use Rattle.std.specs.Prelude.{cond, ◌&&◌, List, ℕ, Result, Ok, Err}
use Rattle.hashers.specs.declared.Hasher.{Hasher}
use Rattle.rules.specs.Growing as rule
use Rattle.rules.specs.Growing.{lower, upper, in_use}
use Rattle.rules.specs.Answers.{Said, Outcome}
use Rattle.rules.specs.Calls as calls
use Rattle.cells.specs.Layout.{size_in, fresh_words, fresh_deltas, words_after, deltas_after}
use Rattle.cells.specs.declared.ShapeError.{ShapeError}
use Rattle.hashmap.specs.Answers.{remove_said}
use Rattle.hashmap.specs.declared.RemoveAnswer.{RemoveAnswer}
use Rattle.parts.specs.Halves.{half_of, are_halves, size_fits, lent_halves, with_table}
use Rattle.parts.specs.declared.Half.{Half}
use Rattle.parts.specs.declared.Half.TheVariants.{Lower}
use Rattle.parts.specs.declared.Growing.{Growing}
use Rattle.halves.specs.declared.GrowingRemoveAnswer.{GrowingRemoveAnswer}

-- the four slices
pub record Four : Type 0 where
  pub lower_words : List ℕ
  pub lower_deltas : List ℕ
  pub upper_words : List ℕ
  pub upper_deltas : List ℕ

abbrev pub four : (lw ld uw ud : List ℕ) → Four
four lw ld uw ud = record { lower_words = lw; lower_deltas = ld; upper_words = uw; upper_deltas = ud }

-- ---- clearing both halves: a fresh table in the lower one, of the size and hasher given; 1 leaves all

pub data Clear : Type 0 where
  cleared : Growing → Clear
  refuses : ℕ → Clear

pub record HalvesCleared : Type 0 where
  pub said : Clear
  pub left : Four

abbrev pub fresh_growing : (size : ℕ) → Hasher → Growing
fresh_growing size hasher = record { table = record { hasher = hasher; live = 0 }; size = size; half = Lower }

unfoldable pub clear_halves_rule : (lw ld uw ud : List ℕ) → (size : ℕ) → Hasher → HalvesCleared
clear_halves_rule lw ld uw ud size hasher =
    let C = size_in ld in
    cond (are_halves lw ld uw ud && size_fits C size)
    (record {
      said = cleared (fresh_growing size hasher);
      left = four (fresh_words C) (fresh_deltas C) (fresh_words C) (fresh_deltas C);
    })
    (record { said = refuses 1; left = four lw ld uw ud })

abbrev pub clear_halves_said : Result Growing ShapeError → Clear
clear_halves_said (Ok g) = cleared g
clear_halves_said (Err e) = refuses 1

abbrev pub clear_halves_left : Result Growing ShapeError → (lw ld uw ud : List ℕ) → HalvesCleared
clear_halves_left r lw ld uw ud = record { said = clear_halves_said r; left = four lw ld uw ud }

-- ---- remove: the change is made in the half in use, and the other half stays

pub record HalvesLeft : Type 0 where
  pub said : Said
  pub looked : ℕ
  pub growing : Growing
  pub left : Four

-- what a change of one half makes of the lower, and of the upper
abbrev pub in_lower : rule.Half → (List ℕ → List ℕ) → List ℕ → List ℕ
in_lower lower f l = f l
in_lower upper f l = l

abbrev pub in_upper : rule.Half → (List ℕ → List ℕ) → List ℕ → List ℕ
in_upper lower f u = u
in_upper upper f u = f u

abbrev pub four_after : rule.Half → Outcome → (lw ld uw ud : List ℕ) → Four
four_after h o lw ld uw ud =
    four (in_lower h (words_after o.change) lw) (in_lower h (deltas_after o.change) ld)
    (in_upper h (words_after o.change) uw) (in_upper h (deltas_after o.change) ud)

-- what an outcome of the table in use leaves: its hasher, size and half stay
unfoldable pub halves_by : Outcome → Growing → (lw ld uw ud : List ℕ) → HalvesLeft
halves_by o g lw ld uw ud =
    record {
      said = o.said;
      looked = o.looked;
      growing = with_table g (record { hasher = g.table.hasher; live = o.counts.live });
      left = four_after (half_of g.half) o lw ld uw ud;
    }

abbrev pub remove_rule : (lw ld uw ud : List ℕ) → Growing → ℕ → HalvesLeft
remove_rule lw ld uw ud g k = halves_by (calls.remove (in_use (lent_halves lw ld uw ud g)) k) g lw ld uw ud

-- the answer of a remove from the table in use, with the growing record
abbrev pub removed_from : RemoveAnswer → (size : ℕ) → Half → GrowingRemoveAnswer
removed_from r size half =
    record { said = r.said; looked = r.looked; growing = record { table = r.table; size = size; half = half } }

abbrev pub remove_halves_left : GrowingRemoveAnswer → (lw ld uw ud : List ℕ) → HalvesLeft
remove_halves_left r lw ld uw ud =
    record { said = remove_said r.said; looked = r.looked; growing = r.growing; left = four lw ld uw ud }
