-- The table in the front of two slices is the table of the two parts. Assumes nothing.
use mathlib.Core.Bool.{true, cond, ◌&&◌}
use mathlib.Core.List.{List, ◌++◌}
use mathlib.Core.Path.{◌≡◌, refl, sym, ap, subst, ◌∙◌}
use Rattle.std.proofs.lemmas.Bool.{and_parts}
use Prim.Native.Nat.{ℕ, ◌+◌, ◌*◌, ◌/◌, ◌≤◌}
use native.Mathlib.Omega.{arith}
use borrow.Author.Tests.{eq-eqb, le-leb}
use lib.Dec.{leb}
use lib.ListN.{length, set, take, drop, take-append-drop}
use lib.Seq.{length-take-le, get_or-take, take-set-lt, drop-set-lt}
use Rattle.rules.specs.Sizes.{is_size}
use Rattle.rules.specs.Cells.{Lent, offered, zero_hash}
use Rattle.rules.specs.Growing.{in_use}
use Rattle.rules.specs.Answers.{Change, nothing, store, fill, Link, unlinked, as_first, as_second, Answer, Outcome, unless, unless_found}
use Rattle.rules.specs.Calls.{find, remove, insert}
use Rattle.steps.proofs.Sizes.{size_least, size_fours}
use Rattle.cells.specs.Layout.{null, first_at, second_at, Shaped, size_in, is_shaped, params_of, counts_of, lent, view, value_in, words_after, deltas_after, linked}
use Rattle.cells.specs.declared.Table.{Table}
use Rattle.cells.proofs.Views.{LinkWithin, Within}
use Rattle.laws.proofs.Within.{remove_within}
use Rattle.parts.specs.Halves.{half_of, of_half, are_halves, record_fits, lent_halves}
use Rattle.parts.specs.declared.Half.{Half}
use Rattle.parts.specs.declared.Growing.{Growing}
use Rattle.halves.proofs.Alike.{Alike, find_same, remove_same, insert_same}
use Rattle.parts.proofs.Checks.{passed, half_shaped}

-- a table of S cells, past the test of its shape
abbrev pub table_of : ℕ → List ℕ → List ℕ → Table → Lent
table_of S ws ds t =
    record { shaped = true; params = params_of S t.hasher; cells = view ws ds; value = value_in ws; counts = counts_of t.live }

module _ {S : ℕ} {ws ds : List ℕ} (s : Shaped S ws ds) where
  words_length : length (take (3 * S) ws) ≡ 3 * S
  words_length = length-take-le (3 * S) ws s.words

  deltas_length : length (take (2 * S) ds) ≡ 2 * S
  deltas_length = length-take-le (2 * S) ds s.deltas

  -- the parts are slices of S cells
  pub part_size : size_in (take (2 * S) ds) ≡ S
  part_size = ap (λ (n : ℕ). n / 2) deltas_length ∙ omega arith

  pub part_shaped : is_shaped (take (3 * S) ws) (take (2 * S) ds) ≡ true
  unfolding is_shaped
  part_shaped = rw (part_size, s.size, words_length, deltas_length, eq-eqb (3 * S) (3 * S) refl, eq-eqb (2 * S) (2 * S) refl)

  pub part_is : (t : Table) → lent (take (3 * S) ws) (take (2 * S) ds) t ≡ table_of S (take (3 * S) ws) (take (2 * S) ds) t
  part_is t =
      λ i. record {
        shaped = part_shaped i;
        params = params_of (part_size i) t.hasher;
        cells = view (take (3 * S) ws) (take (2 * S) ds);
        value = value_in (take (3 * S) ws);
        counts = counts_of t.live;
      }

  -- they hold the same cells
  pub part_alike : Alike S (view (take (3 * S) ws) (take (2 * S) ds)) (view ws ds) (value_in (take (3 * S) ws)) (value_in ws)
  part_alike =
      let f = size_fours S s.size in
      record {
        hash = λ i l. get_or-take (3 * S) ws (3 * i) 0 (omega arith);
        key = λ i l. get_or-take (3 * S) ws (3 * i + 1) 0 (omega arith);
        first = λ i l. get_or-take (2 * S) ds (first_at i) 0 (omega arith);
        second = λ i l. get_or-take (2 * S) ds (second_at i) 0 (omega arith);
        value = λ i l. get_or-take (3 * S) ws (3 * i + 2) 0 (omega arith);
      }

  some : 1 ≤ S
  some = omega (arith, size_least S s.size)

  -- so a find there is a find in the front
  pub part_find : (t : Table) (k : ℕ) → find (lent (take (3 * S) ws) (take (2 * S) ds) t) k ≡ find (table_of S ws ds t) k
  unfolding find
  part_find t k =
      ap (λ (l : Lent). find l k) (part_is t)
      ∙ (let h = (params_of S t.hasher).hash_of k in
      ap (λ (x : Answer). unless_found (cond {A = ℕ} (leb t.live S) 0 1) (unless_found (zero_hash h) x)) (find_same S _ _ _ _ some part_alike h k null))

  pub part_remove : (t : Table) (k : ℕ) → remove (lent (take (3 * S) ws) (take (2 * S) ds) t) k ≡ remove (table_of S ws ds t) k
  unfolding remove
  part_remove t k =
      ap (λ (l : Lent). remove l k) (part_is t)
      ∙ (let h = (params_of S t.hasher).hash_of k in
      let c = counts_of t.live in
      ap (λ (x : Outcome). unless (cond {A = ℕ} (leb t.live S) 0 1) c (unless (zero_hash h) c x)) (remove_same S _ _ _ _ some part_alike h k null c))

  pub part_insert : (t : Table) (k v : ℕ) → insert (lent (take (3 * S) ws) (take (2 * S) ds) t) k v ≡ insert (table_of S ws ds t) k v
  unfolding insert
  part_insert t k v =
      ap (λ (l : Lent). insert l k v) (part_is t)
      ∙ (let h = (params_of S t.hasher).hash_of k in
      let c = counts_of t.live in
      ap (λ (x : Outcome). unless (cond {A = ℕ} (leb t.live S) 0 1) c (unless (offered null v) c (unless (zero_hash h) c x)))
      (insert_same S _ _ _ _ some part_alike h k null c v))

  -- ---- a change within S cells is made in the front, and the rest stays

  -- the words of the part, changed, are the front of the words changed
  pub part_words : (c : Change) → Within S c → words_after c (take (3 * S) ws) ≡ take (3 * S) (words_after c ws)
  part_words nothing w = refl
  part_words (store i v) w = sym (take-set-lt (3 * S) ws (3 * i + 2) v (omega arith))
  part_words (fill i h k v l) w =
      let z = w.0 in
      sym (take-set-lt (3 * S) (set (set ws (3 * i) h) (3 * i + 1) k) (3 * i + 2) v (omega arith)
      ∙ ap (λ (u : List ℕ). set u (3 * i + 2) v)
      (take-set-lt (3 * S) (set ws (3 * i) h) (3 * i + 1) k (omega arith) ∙ ap (λ (u : List ℕ). set u (3 * i + 1) k) (take-set-lt (3 * S) ws (3 * i) h (omega arith))))

  pub rest_words : (c : Change) → Within S c → drop (3 * S) (words_after c ws) ≡ drop (3 * S) ws
  rest_words nothing w = refl
  rest_words (store i v) w = drop-set-lt (3 * S) ws (3 * i + 2) v (omega arith)
  rest_words (fill i h k v l) w =
      let z = w.0 in
      drop-set-lt (3 * S) (set (set ws (3 * i) h) (3 * i + 1) k) (3 * i + 2) v (omega arith)
      ∙ drop-set-lt (3 * S) (set ws (3 * i) h) (3 * i + 1) k (omega arith)
      ∙ drop-set-lt (3 * S) ws (3 * i) h (omega arith)

  link_part : (l : Link) → LinkWithin S l → (linked l (take (2 * S) ds) ≡ take (2 * S) (linked l ds)) × (drop (2 * S) (linked l ds) ≡ drop (2 * S) ds)
  link_part unlinked w = (refl, refl)
  link_part (as_first i d) w =
      let f = size_fours S s.size in
      (sym (take-set-lt (2 * S) ds (first_at i) d (omega arith)), drop-set-lt (2 * S) ds (first_at i) d (omega arith))
  link_part (as_second i d) w =
      let f = size_fours S s.size in
      (sym (take-set-lt (2 * S) ds (second_at i) d (omega arith)), drop-set-lt (2 * S) ds (second_at i) d (omega arith))

  -- so with the deltas
  pub part_deltas : (c : Change) → Within S c → deltas_after c (take (2 * S) ds) ≡ take (2 * S) (deltas_after c ds)
  part_deltas nothing w = refl
  part_deltas (store i v) w = refl
  part_deltas (fill i h k v l) w = (link_part l w.1).0

  pub rest_deltas : (c : Change) → Within S c → drop (2 * S) (deltas_after c ds) ≡ drop (2 * S) ds
  rest_deltas nothing w = refl
  rest_deltas (store i v) w = refl
  rest_deltas (fill i h k v l) w = (link_part l w.1).1

  -- a part that was changed, with the rest behind it, is the half changed
  pub words_joined : (c : Change) → Within S c → words_after c (take (3 * S) ws) ++ drop (3 * S) ws ≡ words_after c ws
  words_joined c w =
      (λ i. part_words c w i ++ sym (rest_words c w) i) ∙ take-append-drop (3 * S) (words_after c ws)

  pub deltas_joined : (c : Change) → Within S c → deltas_after c (take (2 * S) ds) ++ drop (2 * S) ds ≡ deltas_after c ds
  deltas_joined c w =
      (λ i. part_deltas c w i ++ sym (rest_deltas c w) i) ∙ take-append-drop (2 * S) (deltas_after c ds)

  -- a remove changes the S cells alone
  pub part_within : (t : Table) (k : ℕ) → Within S (remove (lent (take (3 * S) ws) (take (2 * S) ds) t) k).change
  part_within t k = subst (λ (o : Outcome). Within S o.change) (sym (part_remove t k)) (remove_within (table_of S ws ds t) (λ e. some) k)

-- ---- the table in use

module _ (lw ld uw ud : List ℕ) (g : Growing) (e : are_halves lw ld uw ud && record_fits (size_in ld) g ≡ true) where
  pub used_shaped : Shaped g.size (of_half (half_of g.half) lw uw) (of_half (half_of g.half) ld ud)
  used_shaped = let p = passed lw ld uw ud g e in half_shaped p.0 p.1 g.half

  pub in_use_is : in_use (lent_halves lw ld uw ud g) ≡ table_of g.size (of_half (half_of g.half) lw uw) (of_half (half_of g.half) ld ud) g.table
  in_use_is =
      let p = passed lw ld uw ud g e in
      let b : are_halves lw ld uw ud && is_size g.size && leb g.size (size_in ld) ≡ true = rw ((and_parts (are_halves lw ld uw ud) _ e).0, p.1.size, le-leb g.size (size_in ld) p.1.most) in
      λ i. record {
        shaped = b i;
        params = params_of g.size g.table.hasher;
        cells = view (of_half (half_of g.half) lw uw) (of_half (half_of g.half) ld ud);
        value = value_in (of_half (half_of g.half) lw uw);
        counts = counts_of g.table.live;
      }

  module _ (h : Half) (eh : g.half ≡ h) (k : ℕ) where
    front : Half → Lent
    front x = lent (take (3 * g.size) (of_half (half_of x) lw uw)) (take (2 * g.size) (of_half (half_of x) ld ud)) g.table

    -- a find on the front of the half in use is the growing find
    pub front_find : find (lent (take (3 * g.size) (of_half (half_of h) lw uw)) (take (2 * g.size) (of_half (half_of h) ld ud)) g.table) k ≡ find (in_use (lent_halves lw ld uw ud g)) k
    unfolding front
    front_find =
        ap (λ (x : Half). find (front x) k) (sym eh) ∙ part_find used_shaped g.table k ∙ ap (λ (l : Lent). find l k) (sym in_use_is)

    -- and a remove there the growing remove
    pub front_remove : remove (lent (take (3 * g.size) (of_half (half_of h) lw uw)) (take (2 * g.size) (of_half (half_of h) ld ud)) g.table) k ≡ remove (in_use (lent_halves lw ld uw ud g)) k
    unfolding front
    front_remove =
        ap (λ (x : Half). remove (front x) k) (sym eh) ∙ part_remove used_shaped g.table k ∙ ap (λ (l : Lent). remove l k) (sym in_use_is)

    -- and an insert there the insert of fixed size
    pub front_insert : (v : ℕ) → insert (lent (take (3 * g.size) (of_half (half_of h) lw uw)) (take (2 * g.size) (of_half (half_of h) ld ud)) g.table) k v ≡ insert (in_use (lent_halves lw ld uw ud g)) k v
    unfolding front
    front_insert v =
        ap (λ (x : Half). insert (front x) k v) (sym eh) ∙ part_insert used_shaped g.table k v ∙ ap (λ (l : Lent). insert l k v) (sym in_use_is)
