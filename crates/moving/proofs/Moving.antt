-- The cells that go over, one at a time, on the slices. Assumes nothing.
use mathlib.Core.Bool.{Bool, true, false, cond}
use mathlib.Core.List.{List, []}
use mathlib.Core.Path.{◌≡◌, refl, sym, ap, ◌∙◌}
use Prim.Native.Nat.{ℕ, suc, ◌+◌, ◌-◌, ◌≤◌, ◌<◌}
use native.Mathlib.Omega.{arith}
use borrow.Author.Tests.{eq-eqb, ne_eqb}
use lib.Dec.{eqb}
use Rattle.std.specs.Prelude.{Result, Ok, Err}
use Rattle.rules.specs.Cells.{Counts}
use Rattle.rules.specs.Answers.{Said, found, absent, new, replaced, revived, removed, refused, Change, Outcome}
use Rattle.rules.specs.Calls.{insert_stored}
use Rattle.rules.specs.Moves.{Held, held_after, all, Moved, stop_with, cell_moved, move_cells}
use Rattle.steps.proofs.Sizes.{size_least}
use Rattle.cells.specs.Layout.{Shaped, Done, done_by, null, view, value_in, counts_of, words_after, deltas_after}
use Rattle.cells.specs.Workers.{worker_said, insert_done}
use Rattle.cells.specs.declared.insert.Put.{Put}
use Rattle.cells.specs.declared.insert.Put.TheVariants as says
use Rattle.cells.specs.declared.insert.WalkError.{WalkError}
use Rattle.cells.specs.declared.insert.WalkError.TheVariants as fails
use Rattle.cells.specs.declared.insert.Inserted.{Inserted}
use Rattle.laws.proofs.Within.{stored_within}
use Rattle.moving.specs.Slices.{held_in}
use Rattle.moving.specs.Ends.{end_of, end_after, Placed, over, stops, placed, placed_by}
use Rattle.moving.proofs.Held.{held_changed}

-- ---- one cell

-- where the insert of a cell leaves the move
abbrev cell_placed : Said → Counts → List ℕ → List ℕ → Placed
cell_placed new c ws ds = over c ws ds
cell_placed (refused n l) c ws ds = cond (eqb n 4) (stops 4 l) (stops 5 [])
cell_placed (found v) c ws ds = stops 5 []
cell_placed absent c ws ds = stops 5 []
cell_placed (replaced v) c ws ds = stops 5 []
cell_placed revived c ws ds = stops 5 []
cell_placed (removed v) c ws ds = stops 5 []

-- by the rule
by_rule : (s : Said) (change : Change) (c : Counts) (ws ds : List ℕ) → cell_placed s c (words_after change ws) (deltas_after change ds)
    ≡ placed_by (cell_moved s change (record { ended = all c; fills = [] })) ws ds
by_rule new change c ws ds = refl
by_rule (refused n l) change c ws ds = go (eqb n 4)
  where
    go : (b : Bool) → cond {A = Placed} b (stops 4 l) (stops 5 []) ≡ placed_by (cond {A = Moved} b (stop_with 4 l) (stop_with 5 [])) ws ds
    go true = refl
    go false = refl
by_rule (found v) change c ws ds = refl
by_rule absent change c ws ds = refl
by_rule (replaced v) change c ws ds = refl
by_rule revived change c ws ds = refl
by_rule (removed v) change c ws ds = refl

-- by the code
by_code : (s : Put) (live : ℕ) (ws ds : List ℕ) → placed (end_of (end_after s live)) ws ds ≡ cell_placed (worker_said s) (counts_of live) ws ds
by_code says.New live ws ds = refl
by_code (says.Replaced old) live ws ds = refl
by_code says.Revived live ws ds = refl
by_code (says.Full at) live ws ds = refl
by_code says.Broken live ws ds = refl

module _ (from : Held) (T i : ℕ) (ws ds : List ℕ) (c : Counts) (v : ℕ) (ev : v ≡ from.value i) where
  -- a cell with the value null stays behind
  pub cell_behind : v ≡ null → over c ws ds ≡ placed_by (move_cells null from T 1 i (held_in ws ds) c) ws ds
  unfolding move_cells
  cell_behind e = rw (eq-eqb (from.value i) null (sym ev ∙ e))

  module _ (live : v ≡ null → ⊥) (h : ℕ) (eh : h ≡ from.cells.hash i) where
    -- hash 0 with another value is 5
    pub cell_zero : h ≡ 0 → stops 5 [] ≡ placed_by (move_cells null from T 1 i (held_in ws ds) c) ws ds
    unfolding move_cells
    cell_zero e = rw (ne_eqb (from.value i) null (λ x. live (ev ∙ x)), eq-eqb (from.cells.hash i) 0 (sym eh ∙ e))

    -- any other cell goes by its insert
    pub cell_inserted : (h ≡ 0 → ⊥) → (k : ℕ) → k ≡ from.cells.key i → (r : Inserted) (ws' ds' : List ℕ)
        → insert_done r ws' ds' ≡ done_by (insert_stored T null (view ws ds) (value_in ws) c h k v) ws ds
        → placed (end_of (end_after r.said r.live)) ws' ds' ≡ placed_by (move_cells null from T 1 i (held_in ws ds) c) ws ds
    unfolding move_cells done_by
    cell_inserted taken k ek r ws' ds' e =
        let o : Outcome = insert_stored T null (view ws ds) (value_in ws) c (from.cells.hash i) (from.cells.key i) (from.value i) in
        let e' : insert_done r ws' ds' ≡ done_by o ws ds = e ∙ rw (ev, eh, ek) in
        by_code r.said r.live ws' ds'
        ∙ ap (λ (d : Done). cell_placed d.said d.counts d.words d.deltas) e'
        ∙ by_rule o.said o.change o.counts ws ds
        ∙ rw (ne_eqb (from.value i) null (λ x. live (ev ∙ x)), ne_eqb (from.cells.hash i) 0 (λ x. taken (eh ∙ x)))

-- ---- a cell and the rest

module _ (from : Held) (T n i : ℕ) where
  -- n cells more, after cell i
  abbrev then : Placed → Placed
  then (over c ws ds) = placed_by (move_cells null from T n (i + 1) (held_in ws ds) c) ws ds
  then (stops k l) = stops k l

  module _ (ws ds : List ℕ) (c : Counts) where
    -- what follows cell i, by the tests
    follows : (b e : Bool) (s : Said) (change : Change) (c' : Counts) → held_in (words_after change ws) (deltas_after change ds) ≡ held_after change (held_in ws ds)
        → then (placed_by (cond b (record { ended = all c; fills = [] }) (cond e (stop_with 5 []) (cell_moved s change (record { ended = all c'; fills = [] })))) ws ds)
        ≡ placed_by (cond b (move_cells null from T n (i + 1) (held_in ws ds) c) (cond e (stop_with 5 []) (cell_moved s change (move_cells null from T n (i + 1) (held_after change (held_in ws ds)) c')))) ws ds
    follows true e s change c' q = refl
    follows false true s change c' q = refl
    follows false false new change c' q = ap (λ (t : Held). placed_by (move_cells null from T n (i + 1) t c') (words_after change ws) (deltas_after change ds)) q
    follows false false (refused m l) change c' q = go (eqb m 4)
      where
        go : (b : Bool) → then (placed_by (cond {A = Moved} b (stop_with 4 l) (stop_with 5 [])) ws ds) ≡ placed_by (cond {A = Moved} b (stop_with 4 l) (stop_with 5 [])) ws ds
        go true = refl
        go false = refl
    follows false false (found v) change c' q = refl
    follows false false absent change c' q = refl
    follows false false (replaced v) change c' q = refl
    follows false false revived change c' q = refl
    follows false false (removed v) change c' q = refl

    one_more : Shaped T ws ds → then (placed_by (move_cells null from T 1 i (held_in ws ds) c) ws ds) ≡ placed_by (move_cells null from T (suc n) i (held_in ws ds) c) ws ds
    unfolding move_cells
    one_more s =
        let o : Outcome = insert_stored T null (view ws ds) (value_in ws) c (from.cells.hash i) (from.cells.key i) (from.value i) in
        let l = size_least T s.size in
        follows (eqb (from.value i) null) (eqb (from.cells.hash i) 0) o.said o.change o.counts
        (held_changed s o.change (stored_within T null (view ws ds) (value_in ws) c (from.cells.hash i) (from.cells.key i) (omega arith) (from.value i)))

-- what is left of a move of S cells, from cell i on, gives this end and these slices
pub record Left (from : Held) (S T i : ℕ) (ws ds : List ℕ) (live : ℕ) (x : Placed) : Type 0 where
  pub same : placed_by (move_cells null from T (S - i) i (held_in ws ds) (counts_of live)) ws ds ≡ x

module _ (from : Held) (S T : ℕ) (ws ds : List ℕ) where
  -- at its start
  pub left_start : Left from S T 0 ws ds 0 (placed_by (move_cells null from T S 0 (held_in ws ds) (counts_of 0)) ws ds)
  left_start =
      let z : S - 0 ≡ S = omega arith in
      record { same = ap (λ (n : ℕ). placed_by (move_cells null from T n 0 (held_in ws ds) (counts_of 0)) ws ds) z }

  module _ (i live : ℕ) (x : Placed) (l : Left from S T i ws ds live x) where
    -- at its end
    pub left_end : S ≤ i → placed (all (counts_of live)) ws ds ≡ x
    unfolding move_cells
    left_end g = let z : S - i ≡ 0 = omega arith in let y = l.same in rw z at y

    module _ (s : Shaped T ws ds) (g : i < S) (ws' ds' : List ℕ) (e : Result ℕ WalkError) (p : placed (end_of e) ws' ds' ≡ placed_by (move_cells null from T 1 i (held_in ws ds) (counts_of live)) ws ds) where
      stepped : then from T (S - (i + 1)) i (placed (end_of e) ws' ds') ≡ x
      stepped =
          let z : S - i ≡ suc (S - (i + 1)) = omega arith in
          let y = l.same in
          ap (then from T (S - (i + 1)) i) p ∙ one_more from T (S - (i + 1)) i ws ds (counts_of live) s ∙ (rw z at y)

      -- cell i is passed
      pub left_on : (total : ℕ) → e ≡ Ok total → Left from S T (i + 1) ws' ds' total x
      left_on total q = let y = stepped in record { same = rw q at y }

      -- cell i stops it
      stopped : (x : WalkError) → then from T (S - (i + 1)) i (placed (end_of (Err x)) ws' ds') ≡ placed (end_of (Err x)) ws' ds'
      stopped (fails.Full at) = refl
      stopped fails.Broken = refl

      pub left_stop : (f : WalkError) → e ≡ Err f → (r : Result ℕ WalkError) → r ≡ Err f → placed (end_of r) ws' ds' ≡ x
      left_stop f q r q' = let y = stepped in let z = rw q at y in rw q' (sym (stopped f) ∙ z)
