-- The branches of the plain move. Assumes nothing.
use mathlib.Core.Bool.{Bool, true, false, cond, ◌&&◌}
use mathlib.Core.List.{List, []}
use mathlib.Core.Path.{◌≡◌, refl, sym, ap, ◌∙◌}
use Prim.Native.Nat.{ℕ}
use lib.Dec.{leb}
use Rattle.std.specs.Prelude.{Some, None, Result, Ok, Err}
use Rattle.hashers.specs.declared.Hasher.{Hasher}
use Rattle.rules.specs.Cells.{Lent, shape}
use Rattle.steps.proofs.Branches.{shape_passes}
use Rattle.rules.specs.Moves.{Held, Ended, stop, MoveOutcome, stays, move_all, move_end, move}
use Rattle.cells.specs.Layout.{null, is_shaped, size_in, lent, counts_of}
use Rattle.cells.proofs.Shapes.{sized}
use Rattle.cells.specs.declared.Table.{Table}
use Rattle.cells.specs.declared.insert.WalkError.{WalkError}
use Rattle.moving.specs.Slices.{held_in, clear_held}
use Rattle.moving.specs.Ends.{end_of, Into, into_by}
use Rattle.moves.specs.Answers.{Move, refuses, move_said, end_said, MoveLeft, move_rule}

-- ---- the rule

module _ (l : Lent) (T : ℕ) (clear : Held) where
  -- check 1 of the source
  source_refused : (b : Bool) → shape l ≡ 1 → move l b T clear ≡ record { ended = stop 1 []; to = stays [] }
  unfolding move
  source_refused true e = rw e
  source_refused false e = refl

  -- check 1 of the destination
  destination_refused : (b : Bool) → b ≡ false → move l b T clear ≡ record { ended = stop 1 []; to = stays [] }
  unfolding move
  destination_refused b e = rw e

  past_both : (b : Bool) → shape l ≡ 0 → b ≡ true
      → move l b T clear
      ≡ move_end (move_all l.params.null l.params.S (record { cells = l.cells; value = l.value }) l.counts T clear) (move_all l.params.null l.params.S (record { cells = l.cells; value = l.value }) l.counts T clear).ended
  unfolding move
  past_both b e q = rw (q, e)

-- ---- on the slices

abbrev saying : Hasher → Into → MoveLeft
saying hasher x = record { said = end_said hasher x.ended; words = x.words; deltas = x.deltas }

module _ (fws fds : List ℕ) (t : Table) (ws ds : List ℕ) where
  abbrev C : ℕ
  C = size_in ds

  as_rule : (o : MoveOutcome) (x : MoveLeft) → move (lent fws fds t) (is_shaped ws ds) C (clear_held C) ≡ o → x ≡ saying t.hasher (into_by C o ws ds) → x ≡ move_rule fws fds t ws ds
  as_rule o x e p = p ∙ ap (λ (o : MoveOutcome). saying t.hasher (into_by C o ws ds)) (sym e)

  -- 1 leaves all
  pub refused_source : shape (lent fws fds t) ≡ 1 → record { said = refuses 1 []; words = ws; deltas = ds } ≡ move_rule fws fds t ws ds
  refused_source e = as_rule _ _ (source_refused (lent fws fds t) C (clear_held C) (is_shaped ws ds) e) refl

  pub refused_destination : is_shaped ws ds ≡ false → record { said = refuses 1 []; words = ws; deltas = ds } ≡ move_rule fws fds t ws ds
  refused_destination e = as_rule _ _ (destination_refused (lent fws fds t) C (clear_held C) (is_shaped ws ds) e) refl

  -- past both checks it goes by how the move ended, of as many cells as `size_of` gave
  pub past_checks : (S : ℕ) → Some S ≡ cond (is_shaped fws fds && leb t.live (size_in fds)) (Some (size_in fds)) None → is_shaped ws ds ≡ true → (s : Move) (e : Ended) (ws' ds' : List ℕ)
      → record { ended = e; words = ws'; deltas = ds' } ≡ into_by C (move_end (move_all null S (held_in fws fds) (counts_of t.live) C (clear_held C)) (move_all null S (held_in fws fds) (counts_of t.live) C (clear_held C)).ended) ws ds
      → s ≡ end_said t.hasher e → record { said = s; words = ws'; deltas = ds' } ≡ move_rule fws fds t ws ds
  past_checks S a b s e ws' ds' p q =
      let z = sized _ _ a in
      let p' = rw z.1 at p in
      as_rule _ _ (past_both (lent fws fds t) C (clear_held C) (is_shaped ws ds) (shape_passes (lent fws fds t) z.0) b)
      ((λ i. record { said = q i; words = ws'; deltas = ds' }) ∙ ap (saying t.hasher) p')

-- what a move said, by how it ended
pub said_moved : (hasher : Hasher) (n : ℕ) (r : Result ℕ WalkError) → r ≡ Ok n → move_said (Ok (record { hasher = hasher; live = n })) ≡ end_said hasher (end_of r)
said_moved hasher n r e = rw e

pub said_stopped : (hasher : Hasher) (w : WalkError) (r : Result ℕ WalkError) → r ≡ Err w → (s : Move) → s ≡ end_said hasher (end_of (Err w)) → s ≡ end_said hasher (end_of r)
said_stopped hasher w r e s q = q ∙ ap (λ (x : Result ℕ WalkError). end_said hasher (end_of x)) (sym e)
