-- The parts are a table: for halves and a record that pass check 1, the two parts with the table record are lent as a table that
-- answers as the table in use, and a change of them is the change of the front of the half in use. Assumes nothing.
use mathlib.Core.Bool.{true, ◌&&◌}
use mathlib.Core.List.{List}
use mathlib.Core.Path.{◌≡◌, refl, sym, ap, ◌∙◌}
use Rattle.std.proofs.lemmas.Bool.{and_parts}
use Prim.Native.Nat.{ℕ, ◌*◌, ◌/◌}
use native.Mathlib.Omega.{arith}
use lib.ListN.{length, take, drop}
use Rattle.rules.specs.Growing as rule
use Rattle.rules.specs.Growing.{lower, upper, in_use}
use Rattle.rules.specs.Answers.{Change, Outcome}
use Rattle.rules.specs.Calls.{find, remove, insert}
use Rattle.steps.proofs.Sizes.{size_least}
use Rattle.laws.proofs.Within.{remove_within}
use Rattle.cells.specs.Layout.{size_in, is_shaped, lent, words_after, deltas_after}
use Rattle.cells.proofs.Views.{Within}
use Rattle.parts.specs.Halves.{half_of, of_half, are_pair, are_halves, record_fits, lent_halves, used_words, used_deltas}
use Rattle.halves.specs.Answers.{in_lower, in_upper, halves_by, remove_rule}
use Rattle.parts.specs.declared.Growing.{Growing}
use Rattle.parts.proofs.Checks.{passed}
use Rattle.halves.proofs.Fronts.{used_shaped, part_shaped, part_size, part_words, rest_words, part_deltas, rest_deltas, front_find, front_remove, front_insert}
use Rattle.parts.proofs.Cutting.{part_at}

-- the half that is changed, afterwards
changed_half : (h : rule.Half) (f : List ℕ → List ℕ) (l u : List ℕ) → of_half h (in_lower h f l) (in_upper h f u) ≡ f (of_half h l u)
changed_half lower f l u = refl
changed_half upper f l u = refl

module _ (lw ld uw ud : List ℕ) (g : Growing) (e : are_halves lw ld uw ud && record_fits (size_in ld) g ≡ true) where
  -- the words tell C as the deltas do
  words_tell : length lw / 3 ≡ size_in ld
  words_tell = let l = (passed lw ld uw ud g e).0.lower_words_length in omega arith

  words_pass : are_pair 3 (length lw / 3) (length lw) (length uw) && record_fits (length lw / 3) g ≡ true
  unfolding are_halves
  words_pass =
      let a = and_parts (are_halves lw ld uw ud) _ e in
      let b = and_parts (are_pair 3 (size_in ld) (length lw) (length uw)) _ a.0 in
      rw (words_tell, b.0, a.1)

  deltas_pass : are_pair 2 (size_in ld) (length ld) (length ud) && record_fits (size_in ld) g ≡ true
  unfolding are_halves
  deltas_pass =
      let a = and_parts (are_halves lw ld uw ud) _ e in
      let b = and_parts (are_pair 3 (size_in ld) (length lw) (length uw)) _ a.0 in
      rw (b.1, a.1)

  -- exactly the first 3S words, and the first 2S deltas
  pub words_are : used_words lw uw g ≡ take (3 * g.size) (of_half (half_of g.half) lw uw)
  words_are = sym (part_at 3 (length lw / 3) lw uw g words_pass g.half refl)

  pub deltas_are : used_deltas ld ud g ≡ take (2 * g.size) (of_half (half_of g.half) ld ud)
  deltas_are = sym (part_at 2 (size_in ld) ld ud g deltas_pass g.half refl)

  -- they are lent as a table of S cells
  pub parts_shaped : is_shaped (used_words lw uw g) (used_deltas ld ud g) ≡ true
  parts_shaped = rw (words_are, deltas_are) (part_shaped (used_shaped lw ld uw ud g e))

  pub parts_size : size_in (used_deltas ld ud g) ≡ g.size
  parts_size = rw deltas_are (part_size (used_shaped lw ld uw ud g e))

  -- a find on the parts is the growing find
  pub parts_find : (k : ℕ) → find (lent (used_words lw uw g) (used_deltas ld ud g) g.table) k ≡ find (in_use (lent_halves lw ld uw ud g)) k
  parts_find k = rw (words_are, deltas_are) (front_find lw ld uw ud g e g.half refl k)

  -- a remove on them is the growing remove
  pub parts_remove : (k : ℕ) → remove (lent (used_words lw uw g) (used_deltas ld ud g) g.table) k ≡ remove (in_use (lent_halves lw ld uw ud g)) k
  parts_remove k = rw (words_are, deltas_are) (front_remove lw ld uw ud g e g.half refl k)

  -- and an insert on them the insert of fixed size in the table in use
  pub parts_insert : (k v : ℕ) → insert (lent (used_words lw uw g) (used_deltas ld ud g) g.table) k v ≡ insert (in_use (lent_halves lw ld uw ud g)) k v
  parts_insert k v = rw (words_are, deltas_are) (front_insert lw ld uw ud g e g.half refl k v)

  module _ (c : Change) (w : Within g.size c) where
    -- a change of the parts is that change of the front of the half in use, whose rest stays
    pub parts_words : words_after c (used_words lw uw g) ≡ take (3 * g.size) (words_after c (of_half (half_of g.half) lw uw))
    parts_words = rw words_are (part_words (used_shaped lw ld uw ud g e) c w)

    pub words_rest : drop (3 * g.size) (words_after c (of_half (half_of g.half) lw uw)) ≡ drop (3 * g.size) (of_half (half_of g.half) lw uw)
    words_rest = rest_words (used_shaped lw ld uw ud g e) c w

    pub parts_deltas : deltas_after c (used_deltas ld ud g) ≡ take (2 * g.size) (deltas_after c (of_half (half_of g.half) ld ud))
    parts_deltas = rw deltas_are (part_deltas (used_shaped lw ld uw ud g e) c w)

    pub deltas_rest : drop (2 * g.size) (deltas_after c (of_half (half_of g.half) ld ud)) ≡ drop (2 * g.size) (of_half (half_of g.half) ld ud)
    deltas_rest = rest_deltas (used_shaped lw ld uw ud g e) c w

  -- what a growing remove says and leaves is what the remove on the parts says and leaves in them
  module _ (k : ℕ) where
    pub remove_outcome : remove_rule lw ld uw ud g k ≡ halves_by (remove (lent (used_words lw uw g) (used_deltas ld ud g) g.table) k) g lw ld uw ud
    remove_outcome = ap (λ (o : Outcome). halves_by o g lw ld uw ud) (sym (parts_remove k))

    change : Change
    change = (remove (in_use (lent_halves lw ld uw ud g)) k).change

    within : Within g.size change
    unfolding change
    within =
        let l = size_least g.size (used_shaped lw ld uw ud g e).size in
        remove_within (in_use (lent_halves lw ld uw ud g)) (λ z. omega arith) k

    same_change : change ≡ (remove (lent (used_words lw uw g) (used_deltas ld ud g) g.table) k).change
    unfolding change
    same_change = ap (λ (o : Outcome). o.change) (sym (parts_remove k))

    pub remove_words : take (3 * g.size) (of_half (half_of g.half) (remove_rule lw ld uw ud g k).left.lower_words (remove_rule lw ld uw ud g k).left.upper_words)
        ≡ words_after (remove (lent (used_words lw uw g) (used_deltas ld ud g) g.table) k).change (used_words lw uw g)
    unfolding change halves_by
    remove_words =
        ap (take (3 * g.size)) (changed_half (half_of g.half) (words_after change) lw uw)
        ∙ sym (parts_words change within)
        ∙ ap (λ (c : Change). words_after c (used_words lw uw g)) same_change

    pub remove_deltas : take (2 * g.size) (of_half (half_of g.half) (remove_rule lw ld uw ud g k).left.lower_deltas (remove_rule lw ld uw ud g k).left.upper_deltas)
        ≡ deltas_after (remove (lent (used_words lw uw g) (used_deltas ld ud g) g.table) k).change (used_deltas ld ud g)
    unfolding change halves_by
    remove_deltas =
        ap (take (2 * g.size)) (changed_half (half_of g.half) (deltas_after change) ld ud)
        ∙ sym (parts_deltas change within)
        ∙ ap (λ (c : Change). deltas_after c (used_deltas ld ud g)) same_change
