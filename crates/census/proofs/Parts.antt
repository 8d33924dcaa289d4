-- Calls on the two parts of a table in two halves. The cursor, setting, entries and moves say of the parts what they say of the table
-- in use (find, insert and remove: crates/halves/proofs/AsTable.antt), and what any of these calls leaves in the parts, put back, is
-- what it leaves in the halves. Check 1 must have passed. Assumes nothing.
use mathlib.Core.Bool.{Bool, true, false, ◌&&◌}
use mathlib.Core.List.{List, ◌++◌}
use mathlib.Core.Logic.{inl, inr}
use mathlib.Core.Path.{◌≡◌, refl, sym, ap, ◌∙◌}
use Prim.Native.Nat.{ℕ, ◌*◌}
use native.Mathlib.Omega.{arith}
use lib.ListN.{take, drop}
use lib.Seq.{length-take-le}
use Rattle.hashers.specs.declared.Hasher.TheVariants.{Simple}
use Rattle.rules.specs.Sizes.{is_power, is_size}
use Rattle.rules.specs.Cells.{Lent, shape}
use Rattle.rules.specs.Answers.{Change, nothing, Outcome}
use Rattle.rules.specs.Calls as rule
use Rattle.rules.specs.Cursor as cursor
use Rattle.rules.specs.Cursor.{set_value}
use Rattle.rules.specs.Entries.{Entry, Action, entry_of, use_entry}
use Rattle.rules.specs.Moves as moves
use Rattle.rules.specs.Moves.{Held, MoveOutcome}
use Rattle.rules.specs.Growing as growing
use Rattle.rules.specs.Growing.{in_use}
use Rattle.steps.proofs.Sizes.{size_least}
use Rattle.cells.specs.Layout.{Shaped, size_in, is_shaped, params_of, counts_of, lent, view, value_in, fresh_words, fresh_deltas, words_after, deltas_after, done_by, left_by}
use Rattle.cells.proofs.Views.{Within}
use Rattle.moving.specs.Slices.{clear_held}
use Rattle.moving.proofs.Held.{words_kept, deltas_kept}
use Rattle.parts.specs.Halves.{half_of, of_half, are_pair, are_halves, size_fits, record_fits, lent_halves, part, used_words, used_deltas, with_table}
use Rattle.halves.specs.Answers.{Four, four, in_lower, in_upper, fresh_growing, halves_by}
use Rattle.parts.specs.declared.Growing.{Growing}
use Rattle.parts.proofs.Checks.{shape_fails}
use Rattle.halves.proofs.Fronts.{part_is, part_alike, words_joined, deltas_joined, used_shaped, in_use_is}
use Rattle.halves.proofs.AsTable.{words_are, deltas_are, parts_remove, parts_insert}
use Rattle.order.specs.Runs.{memory_of}
use Rattle.growthlaws.proofs.Checks.{passed_size}
use Rattle.census.specs.Events.{event_by}
use Rattle.census.specs.Stores.{TwoHalves, alone, halved, lent_two, table_in, left, move_from, moved_to}
use Rattle.census.specs.Calls.{Call, find, make, step, insert, remove, act, set, move, after_call, event_on}
use Rattle.census.specs.Parts.{parts_of, over_front, put_back, on_parts}
use Rattle.census.proofs.Halves.{Placed}
use Rattle.census.proofs.Calls.{insert_placed, remove_placed, use_placed, set_placed}
use Rattle.census.proofs.Local.{Local, step_local, set_local, entry_local, use_local, move_local}

module _ (lw ld uw ud : List ℕ) (g : Growing) (e : are_halves lw ld uw ud && record_fits (size_in ld) g ≡ true) where
  abbrev ws : List ℕ
  ws = of_half (half_of g.half) lw uw

  abbrev ds : List ℕ
  ds = of_half (half_of g.half) ld ud

  shaped : Shaped g.size ws ds
  shaped = used_shaped lw ld uw ud g e

  -- whatever reads the S cells alone says the same of the parts as of the table in use
  pub parts_say : {A : Type 0} (f : Lent → A) → Local f → f (lent (used_words lw uw g) (used_deltas ld ud g) g.table) ≡ f (in_use (lent_halves lw ld uw ud g))
  parts_say f local =
      (λ i. f (lent (words_are lw ld uw ud g e i) (deltas_are lw ld uw ud g e i) g.table))
      ∙ ap f (part_is shaped g.table)
      ∙ local true (params_of g.size g.table.hasher) (counts_of g.table.live) (view (take (3 * g.size) ws) (take (2 * g.size) ds)) (view ws ds)
      (value_in (take (3 * g.size) ws)) (value_in ws) (omega (arith, size_least g.size shaped.size)) (part_alike shaped)
      ∙ ap f (sym (in_use_is lw ld uw ud g e))

  -- a step of the cursor, from any position
  pub parts_step : (position : ℕ) → cursor.step (lent (used_words lw uw g) (used_deltas ld ud g) g.table) position ≡ cursor.step (in_use (lent_halves lw ld uw ud g)) position
  parts_step position = parts_say (λ l. cursor.step l position) (step_local position)

  -- a setting
  pub parts_set : (i v : ℕ) → set_value (lent (used_words lw uw g) (used_deltas ld ud g) g.table) i v ≡ set_value (in_use (lent_halves lw ld uw ud g)) i v
  parts_set i v = parts_say (λ l. set_value l i v) (set_local i v)

  -- the making of an entry
  pub parts_entry : (k : ℕ) → entry_of (lent (used_words lw uw g) (used_deltas ld ud g) g.table) k ≡ entry_of (in_use (lent_halves lw ld uw ud g)) k
  parts_entry k = parts_say (λ l. entry_of l k) (entry_local k)

  -- and its use, at once or late, for any action
  pub parts_use : (x : Entry) (a : Action) → use_entry (lent (used_words lw uw g) (used_deltas ld ud g) g.table) x a ≡ use_entry (in_use (lent_halves lw ld uw ud g)) x a
  parts_use x a = parts_say (λ l. use_entry l x a) (use_local x a)

  -- a plain move from the parts, into any destination
  pub parts_move : (b : Bool) (T : ℕ) (clear : Held)
      → moves.move (lent (used_words lw uw g) (used_deltas ld ud g) g.table) b T clear ≡ moves.move (in_use (lent_halves lw ld uw ud g)) b T clear
  parts_move b T clear = parts_say (λ l. moves.move l b T clear) (move_local b T clear)

  -- ---- what a call leaves in the parts

  placed_within : (o : Outcome) → Placed (in_use (lent_halves lw ld uw ud g)) o → Within g.size o.change
  placed_within o (inl q) = rw q tt
  placed_within o (inr w) = w.1

  said_within : (o n : Outcome) → o ≡ n → Placed (in_use (lent_halves lw ld uw ud g)) n → Within g.size o.change
  said_within o n q w = rw q (placed_within n w)

  -- a change of a cell of the table alone, by every answer
  pub parts_set_within : (i v : ℕ) → Within g.size (set_value (lent (used_words lw uw g) (used_deltas ld ud g) g.table) i v).change
  parts_set_within i v = let l = lent_halves lw ld uw ud g in said_within _ _ (parts_set i v) (set_placed (in_use l) (passed_size l) i v)

  pub parts_use_within : (x : Entry) (a : Action) → Within g.size (use_entry (lent (used_words lw uw g) (used_deltas ld ud g) g.table) x a).change
  parts_use_within x a = let l = lent_halves lw ld uw ud g in said_within _ _ (parts_use x a) (use_placed (in_use l) (passed_size l) x a)

  pub parts_insert_within : (k v : ℕ) → Within g.size (rule.insert (lent (used_words lw uw g) (used_deltas ld ud g) g.table) k v).change
  parts_insert_within k v = let l = lent_halves lw ld uw ud g in said_within _ _ (parts_insert lw ld uw ud g e k v) (insert_placed (in_use l) (passed_size l) k v)

  -- put over the front of the half in use, it is the change of that half
  module _ (c : Change) (w : Within g.size c) where
    over_words : over_front (words_after c (used_words lw uw g)) ws ≡ words_after c ws
    over_words =
        (λ i. over_front (words_after c (words_are lw ld uw ud g e i)) ws)
        ∙ ap (λ (n : ℕ). words_after c (take (3 * g.size) ws) ++ drop n ws) (words_kept c (take (3 * g.size) ws) ∙ length-take-le (3 * g.size) ws shaped.words)
        ∙ words_joined shaped c w

    over_deltas : over_front (deltas_after c (used_deltas ld ud g)) ds ≡ deltas_after c ds
    over_deltas =
        (λ i. over_front (deltas_after c (deltas_are lw ld uw ud g e i)) ds)
        ∙ ap (λ (n : ℕ). deltas_after c (take (2 * g.size) ds) ++ drop n ds) (deltas_kept c (take (2 * g.size) ds) ∙ length-take-le (2 * g.size) ds shaped.deltas)
        ∙ deltas_joined shaped c w

-- two changes of the half in use that leave the same there
four_same : (h : growing.Half) (lw ld uw ud : List ℕ) (fw fw' fd fd' : List ℕ → List ℕ) → fw (of_half h lw uw) ≡ fw' (of_half h lw uw) → fd (of_half h ld ud) ≡ fd' (of_half h ld ud)
    → four (in_lower h fw lw) (in_lower h fd ld) (in_upper h fw uw) (in_upper h fd ud) ≡ four (in_lower h fw' lw) (in_lower h fd' ld) (in_upper h fw' uw) (in_upper h fd' ud)
four_same growing.lower lw ld uw ud fw fw' fd fd' a b = λ i. four (a i) (b i) uw ud
four_same growing.upper lw ld uw ud fw fw' fd fd' a b = λ i. four lw ld (a i) (b i)

four_still : (h : growing.Half) (lw ld uw ud : List ℕ) → four lw ld uw ud ≡ four (in_lower h (λ x. x) lw) (in_lower h (λ x. x) ld) (in_upper h (λ x. x) uw) (in_upper h (λ x. x) ud)
four_still growing.lower lw ld uw ud = refl
four_still growing.upper lw ld uw ud = refl

passing : (lw ld uw ud : List ℕ) (g : Growing) → shape (in_use (lent_halves lw ld uw ud g)) ≡ 0 → are_halves lw ld uw ud && record_fits (size_in ld) g ≡ true
passing lw ld uw ud g p = go (are_halves lw ld uw ud && record_fits (size_in ld) g) refl
  where
    go : (b : Bool) → are_halves lw ld uw ud && record_fits (size_in ld) g ≡ b → b ≡ true
    go true q = refl
    go false q = absurd (omega (arith, shape_fails lw ld uw ud g q))

-- ---- calls on the parts, put back

module _ (h : TwoHalves) (passes : shape (table_in (halved h)) ≡ 0) where
  abbrev lw : List ℕ
  lw = h.slices.lower_words

  abbrev ld : List ℕ
  ld = h.slices.lower_deltas

  abbrev uw : List ℕ
  uw = h.slices.upper_words

  abbrev ud : List ℕ
  ud = h.slices.upper_deltas

  abbrev g : Growing
  g = h.growing

  e : are_halves lw ld uw ud && record_fits (size_in ld) g ≡ true
  e = passing lw ld uw ud g passes

  -- an outcome whose change is within the table, left in the parts and put back, is that outcome left in the halves
  pub put_left : (o : Outcome) → Within h.growing.size o.change
      → left (halved h) o ≡ halved (put_back h (memory_of (left_by o h.growing.table (parts_of h).words (parts_of h).deltas)))
  unfolding halves_by done_by
  put_left o w =
      let c = o.change in
      let q = four_same (half_of g.half) lw ld uw ud (words_after c) (over_front (words_after c (used_words lw uw g))) (deltas_after c) (over_front (deltas_after c (used_deltas ld ud g)))
      (sym (over_words lw ld uw ud g e c w)) (sym (over_deltas lw ld uw ud g e c w)) in
      λ i. halved (record { slices = q i; growing = with_table g (record { hasher = g.table.hasher; live = o.counts.live }) })

  -- parts that were not changed
  back_still : halved h ≡ halved (put_back h (parts_of h))
  back_still =
      let used = half_of g.half in
      let q = four_same used lw ld uw ud (λ x. x) (over_front (used_words lw uw g)) (λ x. x) (over_front (used_deltas ld ud g))
      (sym (over_words lw ld uw ud g e nothing tt)) (sym (over_deltas lw ld uw ud g e nothing tt)) in
      ap (λ (x : Four). halved (record { slices = x; growing = g })) (four_still used lw ld uw ud ∙ q)

  -- the outcome of a call on the parts is o, and that of the same call on the table in use is n
  by : (o n : Outcome) → o ≡ n → Placed (table_in (halved h)) n
      → left (halved h) n ≡ halved (put_back h (memory_of (left_by o h.growing.table (parts_of h).words (parts_of h).deltas)))
  by o n q w =
      put_left n (placed_within lw ld uw ud g e n w) ∙ ap (λ (x : Outcome). halved (put_back h (memory_of (left_by x g.table (parts_of h).words (parts_of h).deltas)))) (sym q)

  moved_same : (ws ds : List ℕ) → move_from (alone (parts_of h)) ws ds ≡ move_from (halved h) ws ds
  moved_same ws ds = parts_move lw ld uw ud g e (is_shaped ws ds) (size_in ds) (clear_held (size_in ds))

  -- what a call leaves of a table in two halves is what the call on its parts leaves, put back
  pub on_parts_lem : (c : Call) → after_call (halved h) c ≡ on_parts h c
  on_parts_lem (find k) = back_still
  on_parts_lem (make k) = back_still
  on_parts_lem (step position) = back_still
  on_parts_lem (insert k v) = by _ _ (parts_insert lw ld uw ud g e k v) (insert_placed (table_in (halved h)) (passed_size (lent_two h)) k v)
  on_parts_lem (remove k) = by _ _ (parts_remove lw ld uw ud g e k) (remove_placed (table_in (halved h)) (passed_size (lent_two h)) k)
  on_parts_lem (act x a) = by _ _ (parts_use lw ld uw ud g e x a) (use_placed (table_in (halved h)) (passed_size (lent_two h)) x a)
  on_parts_lem (set i v) = by _ _ (parts_set lw ld uw ud g e i v) (set_placed (table_in (halved h)) (passed_size (lent_two h)) i v)
  on_parts_lem (move ws ds) =
      (λ i. moved_to (back_still i) ws ds (move_from (halved h) ws ds) (move_from (halved h) ws ds).ended)
      ∙ ap (λ (o : MoveOutcome). moved_to (halved (put_back h (parts_of h))) ws ds o o.ended) (sym (moved_same ws ds))

  -- and its event is the same
  pub parts_event : (c : Call) → event_on (halved h) c ≡ event_on (alone (parts_of h)) c
  parts_event (find k) = refl
  parts_event (make k) = refl
  parts_event (step position) = refl
  parts_event (insert k v) = ap (λ (o : Outcome). event_by k o.said) (sym (parts_insert lw ld uw ud g e k v))
  parts_event (remove k) = ap (λ (o : Outcome). event_by k o.said) (sym (parts_remove lw ld uw ud g e k))
  parts_event (act x a) = ap (λ (o : Outcome). event_by x.key o.said) (sym (parts_use lw ld uw ud g e x a))
  parts_event (set i v) = refl
  parts_event (move ws ds) = refl

-- Check 1 is needed: words of 8 cells and deltas of 16 are no halves, and yet the parts of a table of 8 cells are a table.
pub check_needed : (is_shaped (used_words (fresh_words 8) (fresh_words 8) (fresh_growing 8 Simple)) (used_deltas (fresh_deltas 16) (fresh_deltas 16) (fresh_growing 8 Simple)) ≡ true)
    × (are_halves (fresh_words 8) (fresh_deltas 16) (fresh_words 8) (fresh_deltas 16) ≡ false)
unfolding is_shaped part are_pair are_halves record_fits size_fits is_size is_power fresh_words
check_needed = (refl, refl)
