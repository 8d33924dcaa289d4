-- The plain move on its slices: from a sound table, what it leaves in the destination's slices, lent with the new record, is a sound
-- table with the same lookups. Assumes nothing.
use mathlib.Core.Bool.{true}
use mathlib.Core.List.{List}
use mathlib.Core.Logic.{◌≢◌}
use mathlib.Core.Path.{◌≡◌, sym, ap, subst, ◌∙◌}
use Prim.Native.Nat.{ℕ, ◌*◌}
use native.Mathlib.Omega.{arith}
use borrow.Author.Tests.{eq-eqb, le-leb}
use lib.ListN.{length, length-replicate}
use Rattle.rules.specs.Sizes.{is_size}
use Rattle.rules.specs.Cells.{Counts, Lent}
use Rattle.rules.specs.Answers.{Change}
use Rattle.rules.specs.Calls.{find}
use Rattle.rules.specs.Moves.{held_after_all, Became, all, stop}
use Rattle.cells.specs.declared.Table.{Table}
use Rattle.cells.proofs.Clearing.{fresh_length}
use Rattle.cells.specs.Layout.{null, is_shaped, size_in, params_of, counts_of, lent, fresh_words, fresh_deltas}
use Rattle.cells.proofs.Shapes.{passed}
use Rattle.sound.specs.State.{SoundTable, state_of}
use Rattle.sound.proofs.Slices.{lent_sized}
use Rattle.moving.specs.Slices.{held_in, clear_held, words_after_all, deltas_after_all, words_become, deltas_become}
use Rattle.moving.proofs.Held.{words_kept_all, deltas_kept_all, moved_held}
use Rattle.movelaws.specs.Carried.{IsClear}
use Rattle.movelaws.specs.Movable.{state_moved}
use Rattle.movelaws.specs.Slices.{move_on, words_moved, deltas_moved, lent_to}
use Rattle.movelaws.specs.Plain.{held_become, lent_moved}
use Rattle.movelaws.proofs.Plain.{moves_all, move_done, refused_stays, stopped_clears, plain_never_5, plain_counts, plain_sound, plain_state, plain_find}
use Rattle.movelaws.proofs.Fresh.{fresh_clear}

-- 3S words and 2S deltas for an allowed S
is_shaped_lem : (ws ds : List ℕ) (S : ℕ) → size_in ds ≡ S → length ws ≡ 3 * S → length ds ≡ 2 * S → is_size S ≡ true → is_shaped ws ds ≡ true
unfolding is_shaped
is_shaped_lem ws ds S a b c d = rw (a, d, eq-eqb (length ws) (3 * S) b, eq-eqb (length ds) (2 * S) c)

-- a table on two slices, and the two slices of a destination
module _ (ws ds : List ℕ) (t : Table) (tws tds : List ℕ) where
  abbrev T : ℕ
  T = size_in tds

  -- shaped slices hold an allowed number of cells
  size : is_shaped tws tds ≡ true → is_size T ≡ true
  size e = (passed tws tds 0 (rw (e, le-leb 0 T (omega arith)))).0.size

  -- and once cleared they are clear
  empty : is_shaped tws tds ≡ true → IsClear null T (clear_held T)
  empty e = fresh_clear T T (size e) (omega arith)

  -- slices of T cells, cleared and then changed, hold the changed cells and are shaped
  filled : (c : Counts) (fills : List Change) → is_size T ≡ true
      → held_in (words_after_all fills (fresh_words T)) (deltas_after_all fills (fresh_deltas T)) ≡ held_after_all fills (clear_held T)
      → lent (words_after_all fills (fresh_words T)) (deltas_after_all fills (fresh_deltas T)) (record { hasher = t.hasher; live = c.live })
      ≡ lent_moved (lent ws ds t) T (held_after_all fills (clear_held T)) c
  filled c fills allowed held = λ i. record {
    shaped = shaped i;
    params = params_of (cells i) t.hasher;
    cells = (held i).cells;
    value = (held i).value;
    counts = c;
  }
    where
      words : length (words_after_all fills (fresh_words T)) ≡ 3 * T
      words = words_kept_all fills (fresh_words T) ∙ fresh_length T

      deltas : length (deltas_after_all fills (fresh_deltas T)) ≡ 2 * T
      deltas = deltas_kept_all fills (fresh_deltas T) ∙ length-replicate (2 * T) 0

      cells : size_in (deltas_after_all fills (fresh_deltas T)) ≡ T
      cells = omega (arith, deltas)

      shaped : is_shaped (words_after_all fills (fresh_words T)) (deltas_after_all fills (fresh_deltas T)) ≡ true
      shaped = is_shaped_lem _ _ T cells words deltas allowed

  -- ---- a refused one

  -- after Full or Broken the destination's slices are fresh
  pub lent_stopped_fresh : (n : ℕ) (x : List ℕ) → (move_on ws ds t tws tds).ended ≡ stop n x → n ≢ 1
      → (words_moved ws ds t tws tds ≡ fresh_words (size_in tds))
      × (deltas_moved ws ds t tws tds ≡ fresh_deltas (size_in tds))
  lent_stopped_fresh n x e d =
      let q = stopped_clears (lent ws ds t) (is_shaped tws tds) T (clear_held T) n x e d in
      (ap (λ (b : Became). words_become T b tws) q, ap (λ (b : Became). deltas_become T b tds) q)

  -- after 1 they are as they were
  pub lent_refused_stays : (x : List ℕ) → (move_on ws ds t tws tds).ended ≡ stop 1 x
      → (words_moved ws ds t tws tds ≡ tws)
      × (deltas_moved ws ds t tws tds ≡ tds)
  lent_refused_stays x e =
      let q = refused_stays (lent ws ds t) (is_shaped tws tds) T (clear_held T) x e in
      (ap (λ (b : Became). words_become T b tws) q, ap (λ (b : Became). deltas_become T b tds) q)

  -- a move of a sound table is never Broken
  pub lent_move_never_5 : SoundTable (lent ws ds t) → (x : List ℕ)
      → (move_on ws ds t tws tds).ended ≢ stop 5 x
  lent_move_never_5 s = plain_never_5 (lent ws ds t) (is_shaped tws tds) T (clear_held T) size empty s

  -- ---- one that succeeds, from a sound table

  module _ (s : SoundTable (lent ws ds t)) (c : Counts) (e : (move_on ws ds t tws tds).ended ≡ all c) where
    -- what it leaves, lent again, is the new table
    pub lent_after_move : lent_to ws ds t tws tds c
        ≡ lent_moved (lent ws ds t) (size_in tds)
        (held_become (clear_held (size_in tds)) (move_on ws ds t tws tds).to (held_in tws tds)) c
    lent_after_move =
        let d = move_done (lent ws ds t) (is_shaped tws tds) T (clear_held T) c e in
        let x = size d.is_shaped_lem in
        rw d.to
        (filled c (moves_all (lent ws ds t) T (clear_held T)).fills x (moved_held null (size_in ds) (held_in ws ds) (counts_of t.live) T T x (omega arith)))

    -- the new record has the source's live
    pub lent_move_live : c.live ≡ t.live
    lent_move_live =
        ap (λ (x : Counts). x.live) (plain_counts (lent ws ds t) (is_shaped tws tds) T (clear_held T) size empty s c e (held_in tws tds))

    -- the destination's slices with that record are a sound table
    pub lent_move_sound : SoundTable (lent_to ws ds t tws tds c)
    lent_move_sound =
        subst (λ (l : Lent). SoundTable l) (sym lent_after_move)
        (plain_sound (lent ws ds t) (is_shaped tws tds) T (clear_held T) size empty s c e (held_in tws tds))

    -- with the same keys and values and no removed cell
    pub lent_move_state : (k : ℕ) → state_of (lent_to ws ds t tws tds c) k ≡ state_moved (state_of (lent ws ds t) k)
    lent_move_state k =
        ap (λ (l : Lent). state_of l k) lent_after_move
        ∙ plain_state (lent ws ds t) (is_shaped tws tds) T (clear_held T) size empty s c e (held_in tws tds) k

    -- and every find says what it says in the source
    pub lent_move_find : (k : ℕ) → (find (lent_to ws ds t tws tds c) k).said ≡ (find (lent ws ds t) k).said
    lent_move_find k =
        ap (λ (l : Lent). (find l k).said) lent_after_move
        ∙ plain_find (lent ws ds t) (is_shaped tws tds) T (clear_held T) size empty s c e (held_in tws tds) (lent_sized ws ds t) k
