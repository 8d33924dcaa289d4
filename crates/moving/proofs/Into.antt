-- A whole move into clear slices, from how its cells went over. Assumes nothing.
use mathlib.Core.Bool.{Bool, true, false, cond}
use mathlib.Core.List.{List, [], ◌∷◌}
use mathlib.Core.Path.{◌≡◌, refl, ap, ◌∙◌}
use Prim.Native.Nat.{ℕ}
use lib.Dec.{eqb}
use Rattle.std.specs.Prelude.{Result, Ok, Err, is_err}
use Rattle.rules.specs.Answers.{Change}
use Rattle.rules.specs.Moves.{Held, Ended, all, stop, Moved, stop_with, move_cells, totalled, move_all, move_end}
use Rattle.cells.specs.Layout.{null, counts_of, fresh_words, fresh_deltas}
use Rattle.moving.specs.Slices.{held_in, clear_held, words_after_all, deltas_after_all}
use Rattle.cells.specs.declared.insert.WalkError.{WalkError}
use Rattle.cells.specs.declared.insert.WalkError.TheVariants.{Full, Broken}
use Rattle.moving.specs.Ends.{end_of, end_totalled, Placed, over, stops, placed, placed_by, Into, into_by}

-- ---- the whole move

module _ (C live : ℕ) where
  -- a stop, with all cleared again
  abbrev stopped : ℕ → List ℕ → Into
  stopped n l = record { ended = stop n l; words = fresh_words C; deltas = fresh_deltas C }

  -- the total is compared last
  abbrev into : Placed → Into
  into (over c ws ds) = cond (eqb c.live live) (record { ended = all c; words = ws; deltas = ds }) (stopped 5 [])
  into (stops n l) = stopped n l

  -- by the code's end
  abbrev into_end : Result ℕ WalkError → List ℕ → List ℕ → Into
  into_end (Ok total) ws ds = record { ended = all (counts_of total); words = ws; deltas = ds }
  into_end (Err (Full at)) ws ds = stopped 4 (at.position ∷ [])
  into_end (Err Broken) ws ds = stopped 5 []

  over_kept : (e : Result ℕ WalkError) (ws ds : List ℕ) → is_err e ≡ false → record { ended = end_of e; words = ws; deltas = ds } ≡ into_end e ws ds
  over_kept (Ok total) ws ds t = refl
  over_kept (Err e) ws ds t = cc

  stop_cleared : (e : Result ℕ WalkError) (ws ds : List ℕ) → is_err e ≡ true → record { ended = end_of e; words = fresh_words C; deltas = fresh_deltas C } ≡ into_end e ws ds
  stop_cleared (Ok total) ws ds t = cc
  stop_cleared (Err (Full at)) ws ds t = refl
  stop_cleared (Err Broken) ws ds t = refl

  into_end_lem : (e : Result ℕ WalkError) (ws ds : List ℕ) → into_end (end_totalled live e) ws ds ≡ into (placed (end_of e) ws ds)
  into_end_lem (Err (Full at)) ws ds = refl
  into_end_lem (Err Broken) ws ds = refl
  into_end_lem (Ok total) ws ds = go (eqb total live)
    where
      go : (b : Bool) → into_end (cond b (Ok total) (Err Broken)) ws ds ≡ cond b (record { ended = all (counts_of total); words = ws; deltas = ds }) (stopped 5 [])
      go true = refl
      go false = refl

  into_by_lem : (e : Ended) (l : List Change) (ws ds : List ℕ)
      → into (placed e (words_after_all l (fresh_words C)) (deltas_after_all l (fresh_deltas C)))
      ≡ into_by C (move_end (totalled live (record { ended = e; fills = l }) e) (totalled live (record { ended = e; fills = l }) e).ended) ws ds
  into_by_lem (stop n k) l ws ds = refl
  into_by_lem (all c) l ws ds = go (eqb c.live live)
    where
      go : (b : Bool) → cond b (record { ended = all c; words = words_after_all l (fresh_words C); deltas = deltas_after_all l (fresh_deltas C) }) (stopped 5 [])
          ≡ into_by C (move_end (cond b (record { ended = all c; fills = l }) (stop_with 5 [])) (cond b (record { ended = all c; fills = l }) (stop_with 5 [])).ended) ws ds
      go true = refl
      go false = refl

  module _ (from : Held) (S T : ℕ) (ws ds : List ℕ) where
    abbrev Whole : Into
    Whole = into_by C (move_end (move_all null S from (counts_of live) T (clear_held C)) (move_all null S from (counts_of live) T (clear_held C)).ended) ws ds

    into_all : into (placed_by (move_cells null from T S 0 (clear_held C) (counts_of 0)) (fresh_words C) (fresh_deltas C)) ≡ Whole
    unfolding move_all
    into_all = let m = move_cells null from T S 0 (clear_held C) (counts_of 0) in into_by_lem m.ended m.fills ws ds

    module _ (ew : ws ≡ fresh_words C) (ed : ds ≡ fresh_deltas C) (e : Result ℕ WalkError) (ws' ds' : List ℕ) (p : placed (end_of e) ws' ds' ≡ placed_by (move_cells null from T S 0 (held_in ws ds) (counts_of 0)) ws ds) (e' : Result ℕ WalkError) (q : e' ≡ end_totalled live e) where
      by_end : into_end (end_totalled live e) ws' ds' ≡ Whole
      by_end = into_end_lem e ws' ds' ∙ ap into (p ∙ λ t. placed_by (move_cells null from T S 0 (held_in (ew t) (ed t)) (counts_of 0)) (ew t) (ed t)) ∙ into_all

      -- all went over
      pub into_moved : is_err e' ≡ false → record { ended = end_of e'; words = ws'; deltas = ds' } ≡ Whole
      into_moved t = over_kept e' ws' ds' t ∙ rw q by_end

      -- a cell or the total stopped it, and all was cleared again
      pub into_stopped : {ws'' ds'' : List ℕ} → is_err e' ≡ true → (ws'' ≡ fresh_words C) × (ds'' ≡ fresh_deltas C) → record { ended = end_of e'; words = ws''; deltas = ds'' } ≡ Whole
      into_stopped t c = (λ i. record { ended = end_of e'; words = c.0 i; deltas = c.1 i }) ∙ stop_cleared e' ws' ds' t ∙ rw q by_end

-- a move clears its destination first, so what it leaves does not go by what was there
pub into_any : (C : ℕ) (m : Moved) (e : Ended) (ws ds ws' ds' : List ℕ) → into_by C (move_end m e) ws ds ≡ into_by C (move_end m e) ws' ds'
into_any C m (all c) ws ds ws' ds' = refl
into_any C m (stop n l) ws ds ws' ds' = refl
