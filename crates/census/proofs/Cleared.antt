-- Cleared slices and cleared halves are fresh, so a clearing is a step to a table without keys; a refused one leaves all. Assumes nothing.
use mathlib.Core.Bool.{Bool, true, false, ◌&&◌}
use mathlib.Core.List.{List}
use mathlib.Core.Path.{◌≡◌, refl, sym, ap, subst}
use Rattle.std.proofs.lemmas.Bool.{and_parts}
use Prim.Native.Nat.{ℕ, ◌*◌, ◌/◌, ◌≤◌}
use native.Mathlib.Omega.{arith}
use borrow.Author.Tests.{le-leb}
use lib.ListN.{replicate, length-replicate}
use Rattle.hashers.specs.declared.Hasher.{Hasher}
use Rattle.rules.specs.Sizes.{is_size}
use Rattle.cells.specs.Layout.{size_in, is_shaped, params_of, fresh_words, fresh_deltas}
use Rattle.cells.proofs.Shapes.{passed, exact_lengths}
use Rattle.moving.specs.Slices.{clear_held}
use Rattle.movelaws.proofs.Carrying.{clear_fresh}
use Rattle.movelaws.proofs.Fresh.{fresh_clear}
use Rattle.sound.specs.State.{SoundTable}
use Rattle.hashmap.specs.Answers.{Cleared, clear_rule}
use Rattle.hashmap.proofs.Cleared.{clears, keeps}
use Rattle.parts.specs.Halves.{are_halves, size_fits}
use Rattle.halves.specs.Answers.{four, cleared, refuses, HalvesCleared, fresh_growing, clear_halves_rule}
use Rattle.parts.proofs.Checks.{halves_hold, size_holds}
use Rattle.order.specs.Runs.{Memory}
use Rattle.census.specs.Steps.{Step}
use Rattle.census.specs.Stores.{TwoHalves, alone, halved, table_in, memory_cleared, two_cleared}
use Rattle.census.specs.Calls.{clear, clear_event, clear_halves_event, next, event}
use Rattle.census.specs.Starts.{FreshTable, fresh_alone, fresh_halved}
use Rattle.census.proofs.Keys.{stay, wipe_step}

-- shaped slices hold an allowed number of cells
pub shaped_size : (ws ds : List ℕ) → is_shaped ws ds ≡ true → is_size (size_in ds) ≡ true
shaped_size ws ds e = (passed ws ds 0 (rw (e, le-leb 0 (size_in ds) (omega arith)))).0.size

-- fresh slices of an allowed size hold a fresh table
pub alone_fresh : (S : ℕ) (hasher : Hasher) → is_size S ≡ true → FreshTable (fresh_alone S hasher)
alone_fresh S hasher size =
    let e : size_in (fresh_deltas S) ≤ S = omega (arith, ap (λ (n : ℕ). n / 2) (length-replicate {A = ℕ} (2 * S) 0)) in
    clear_fresh (params_of (size_in (fresh_deltas S)) hasher) (clear_held S) (fresh_clear S (size_in (fresh_deltas S)) size e)

-- so do two cleared halves with a fresh record
pub halved_fresh : (C size : ℕ) (hasher : Hasher) → is_size C ≡ true → size ≤ C → FreshTable (fresh_halved C size hasher)
halved_fresh C size hasher c u = clear_fresh (params_of size hasher) (clear_held C) (fresh_clear C size c u)

-- ---- a clearing is a step

module _ (m : Memory) (hasher : Hasher) (s : SoundTable (table_in (alone m))) where
  abbrev Clears : Cleared → Type 0
  Clears x = Step (table_in (alone m)) (clear_event x.said) (table_in (alone (memory_cleared m x x.said)))

  pub clear_step : Step (table_in (alone m)) (event (alone m) (clear hasher)) (table_in (next (alone m) (clear hasher)))
  clear_step = go (is_shaped m.words m.deltas) refl
    where
      go : (b : Bool) → is_shaped m.words m.deltas ≡ b → Clears (clear_rule m.words m.deltas hasher)
      go true e =
          subst Clears (clears m.words m.deltas hasher e _ _ refl (ap (λ (n : ℕ). replicate {A = ℕ} n 0) (sym (exact_lengths m.words m.deltas e).1)))
          (wipe_step (table_in (alone m)) (table_in (fresh_alone (size_in m.deltas) hasher)) (alone_fresh (size_in m.deltas) hasher (shaped_size m.words m.deltas e)))
      go false e = subst Clears (keeps m.words m.deltas hasher e) (stay (table_in (alone m)) s)

module _ (h : TwoHalves) (size : ℕ) (hasher : Hasher) (s : SoundTable (table_in (halved h))) where
  abbrev lw : List ℕ
  lw = h.slices.lower_words

  abbrev ld : List ℕ
  ld = h.slices.lower_deltas

  abbrev uw : List ℕ
  uw = h.slices.upper_words

  abbrev ud : List ℕ
  ud = h.slices.upper_deltas

  abbrev ClearsHalves : HalvesCleared → Type 0
  ClearsHalves x = Step (table_in (halved h)) (clear_halves_event x.said) (table_in (halved (two_cleared h x x.said)))

  made : are_halves lw ld uw ud && size_fits (size_in ld) size ≡ true
      → record { said = cleared (fresh_growing size hasher); left = four (fresh_words (size_in ld)) (fresh_deltas (size_in ld)) (fresh_words (size_in ld)) (fresh_deltas (size_in ld)) } ≡ clear_halves_rule lw ld uw ud size hasher
  unfolding clear_halves_rule
  made e = rw e

  kept : are_halves lw ld uw ud && size_fits (size_in ld) size ≡ false → record { said = refuses 1; left = four lw ld uw ud } ≡ clear_halves_rule lw ld uw ud size hasher
  unfolding clear_halves_rule
  kept e = rw e

  pub clear_halves_step : Step (table_in (halved h)) (event (halved h) (clear size hasher)) (table_in (next (halved h) (clear size hasher)))
  clear_halves_step = go (are_halves lw ld uw ud && size_fits (size_in ld) size) refl
    where
      go : (b : Bool) → are_halves lw ld uw ud && size_fits (size_in ld) size ≡ b → ClearsHalves (clear_halves_rule lw ld uw ud size hasher)
      go true e =
          let a = and_parts _ _ e in
          subst ClearsHalves (made e)
          (wipe_step (table_in (halved h)) (table_in (fresh_halved (size_in ld) size hasher))
          (halved_fresh (size_in ld) size hasher (halves_hold lw ld uw ud a.0).size (size_holds (size_in ld) size a.1).1))
      go false e = subst ClearsHalves (kept e) (stay (table_in (halved h)) s)
