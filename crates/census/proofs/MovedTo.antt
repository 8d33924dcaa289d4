-- A plain move into two slices is a step, from a table alone or in two halves. Assumes nothing.
use mathlib.Core.Bool.{Bool, true}
use mathlib.Core.List.{List}
use mathlib.Core.Logic.{◌≢◌}
use mathlib.Core.Path.{◌≡◌, refl, sym, ap, subst, ◌∙◌}
use Prim.Native.Nat.{ℕ, ◌*◌}
use native.Mathlib.Omega.{arith}
use borrow.Author.Tests.{eq-eqb}
use lib.ListN.{length, length-replicate}
use Rattle.hashers.specs.declared.Hasher.{Hasher}
use Rattle.rules.specs.Sizes.{is_size}
use Rattle.rules.specs.Cells.{Cells, Counts, Lent}
use Rattle.rules.specs.Answers.{Change}
use Rattle.rules.specs.Moves.{held_after_all, Became, Ended, all, stop, MoveOutcome, move}
use Rattle.cells.specs.Layout.{null, size_in, is_shaped, params_of, lent, fresh_words, fresh_deltas}
use Rattle.cells.proofs.Clearing.{fresh_length}
use Rattle.moving.specs.Slices.{held_in, clear_held, words_after_all, deltas_after_all, words_become, deltas_become}
use Rattle.moving.proofs.Held.{words_kept_all, deltas_kept_all, moved_held}
use Rattle.movelaws.specs.Plain.{held_of, held_become, lent_moved}
use Rattle.movelaws.proofs.Plain.{moves_all, move_done, stopped_clears}
use Rattle.movelaws.proofs.Fresh.{fresh_clear}
use Rattle.sound.specs.State.{SoundTable}
use Rattle.census.specs.History.{still}
use Rattle.census.specs.Steps.{Step}
use Rattle.census.specs.Stores.{Store, alone, halved, table_in, move_from, moved_to, failed_to}
use Rattle.census.specs.Starts.{FreshTable, fresh_alone}
use Rattle.census.proofs.Keys.{stay}
use Rattle.census.proofs.Moves.{stopped_shaped, move_step}
use Rattle.census.proofs.Cleared.{shaped_size, alone_fresh}

-- 3T words and 2T deltas for an allowed T
is_shaped_lem : (ws ds : List ℕ) (T : ℕ) → size_in ds ≡ T → length ws ≡ 3 * T → length ds ≡ 2 * T → is_size T ≡ true → is_shaped ws ds ≡ true
unfolding is_shaped
is_shaped_lem ws ds T a b c d = rw (a, d, eq-eqb (length ws) (3 * T) b, eq-eqb (length ds) (2 * T) c)

module _ (shaped : Bool) (S : ℕ) (hasher : Hasher) (cells : Cells) (value : ℕ → ℕ) (counts : Counts) (ws ds : List ℕ) where
  -- the source
  abbrev l : Lent
  l = record { shaped = shaped; params = params_of S hasher; cells = cells; value = value; counts = counts }

  abbrev T : ℕ
  T = size_in ds

  abbrev o : MoveOutcome
  o = move l (is_shaped ws ds) T (clear_held T)

  -- slices of T cells, cleared and then changed, hold the changed cells and are shaped
  filled : (c : Counts) (fills : List Change) → is_size T ≡ true
      → held_in (words_after_all fills (fresh_words T)) (deltas_after_all fills (fresh_deltas T)) ≡ held_after_all fills (clear_held T)
      → lent (words_after_all fills (fresh_words T)) (deltas_after_all fills (fresh_deltas T)) (record { hasher = hasher; live = c.live })
      ≡ lent_moved l T (held_after_all fills (clear_held T)) c
  filled c fills allowed held =
      let w = words_kept_all fills (fresh_words T) ∙ fresh_length T in
      let d = deltas_kept_all fills (fresh_deltas T) ∙ length-replicate {A = ℕ} (2 * T) 0 in
      let n : size_in (deltas_after_all fills (fresh_deltas T)) ≡ T = omega (arith, d) in
      let s = is_shaped_lem (words_after_all fills (fresh_words T)) (deltas_after_all fills (fresh_deltas T)) T n w d allowed in
      λ i. record { shaped = s i; params = params_of (n i) hasher; cells = (held i).cells; value = (held i).value; counts = c }

  -- a move that succeeds: what it leaves in the destination, lent with the new record, has the source's keys
  into : SoundTable l → (c : Counts) → o.ended ≡ all c
      → Step l still (lent (words_become T o.to ws) (deltas_become T o.to ds) (record { hasher = hasher; live = c.live }))
  into s c e =
      let d = move_done l (is_shaped ws ds) T (clear_held T) c e in
      let x = shaped_size ws ds d.is_shaped_lem in
      let f = (moves_all l T (clear_held T)).fills in
      let q : lent (words_become T o.to ws) (deltas_become T o.to ds) (record { hasher = hasher; live = c.live }) ≡ lent_moved l T (held_become (clear_held T) o.to (held_in ws ds)) c =
      rw d.to (filled c f x (moved_held null S (held_of l) counts T T x (omega arith))) in
      subst (λ (n : Lent). Step l still n) (sym q)
      (move_step l (is_shaped ws ds) T (clear_held T) (shaped_size ws ds) (λ y. fresh_clear T T (shaped_size ws ds y) (omega arith)) s c e (held_in ws ds))

-- a plain move, by every answer
pub moved_step : (s : Store) (ws ds : List ℕ) → SoundTable (table_in s) → Step (table_in s) still (table_in (moved_to s ws ds (move_from s ws ds) (move_from s ws ds).ended))
moved_step (alone m) ws ds t = go (move_from (alone m) ws ds).ended refl
  where
    go : (e : Ended) → (move_from (alone m) ws ds).ended ≡ e → Step (table_in (alone m)) still (table_in (moved_to (alone m) ws ds (move_from (alone m) ws ds) e))
    go (all c) q = into _ _ m.table.hasher _ _ _ ws ds t c q
    go (stop n x) q = stay (table_in (alone m)) t
moved_step (halved h) ws ds t = go (move_from (halved h) ws ds).ended refl
  where
    go : (e : Ended) → (move_from (halved h) ws ds).ended ≡ e → Step (table_in (halved h)) still (table_in (moved_to (halved h) ws ds (move_from (halved h) ws ds) e))
    go (all c) q = into _ _ h.growing.table.hasher _ _ _ ws ds t c q
    go (stop n x) q = stay (table_in (halved h)) t

-- ---- the destination of one that fails

-- after Full or Broken that is a fresh table, where a history of its own starts
pub failed_fresh : (s : Store) (ws ds : List ℕ) (n : ℕ) (x : List ℕ) → (move_from s ws ds).ended ≡ stop n x → n ≢ 1 → (hasher : Hasher) → FreshTable (failed_to s ws ds hasher)
failed_fresh s ws ds n x e d hasher =
    subst FreshTable (sym cleared_there)
    (alone_fresh (size_in ds) hasher (shaped_size ws ds (stopped_shaped (table_in s) (is_shaped ws ds) (size_in ds) (clear_held (size_in ds)) n x e d)))
  where
    cleared_there : failed_to s ws ds hasher ≡ fresh_alone (size_in ds) hasher
    cleared_there =
        ap
        (λ (b : Became). alone (record { words = words_become (size_in ds) b ws; deltas = deltas_become (size_in ds) b ds; table = record { hasher = hasher; live = 0 } }))
        (stopped_clears (table_in s) (is_shaped ws ds) (size_in ds) (clear_held (size_in ds)) n x e d)
