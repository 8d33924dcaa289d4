-- Fresh slices are clear, as far as they go. Assumes nothing.
use mathlib.Core.Bool.{true}
use mathlib.Core.Path.{◌≡◌}
use Prim.Native.Nat.{ℕ, ◌*◌, ◌≤◌}
use native.Mathlib.Omega.{arith}
use lib.ListN.{length, length-replicate, get_or-replicate}
use Rattle.rules.specs.Sizes.{is_size}
use Rattle.cells.specs.Layout.{null, first_at, second_at, view, value_in, fresh_words, fresh_deltas}
use Rattle.cells.proofs.Clearing.{fresh_at}
use Rattle.cells.proofs.Shapes.{deltas_hold}
use Rattle.movelaws.specs.Carried.{IsClear}
use Rattle.movelaws.proofs.Carrying.{clear_less}

-- slices of C cells, cleared, hold a clear table of every size T up to C
pub fresh_clear : (C T : ℕ) → is_size C ≡ true → T ≤ C → IsClear null T (record { cells = view (fresh_words C) (fresh_deltas C); value = value_in (fresh_words C) })
fresh_clear C T size l = clear_less null C T _ l whole
  where
    whole : IsClear null C (record { cells = view (fresh_words C) (fresh_deltas C); value = value_in (fresh_words C) })
    whole =
        record {
          empty = λ i u. (fresh_at C i u).0;
          clear = λ i u.
              let m : length (fresh_deltas C) ≡ 2 * C = length-replicate (2 * C) 0 in
              let d = deltas_hold C (fresh_deltas C) i size (omega arith) u in
              record {
                no_key = (fresh_at C i u).1;
                no_value = (fresh_at C i u).2;
                no_first = get_or-replicate (2 * C) (first_at i) 0 0 (omega arith);
                no_second = get_or-replicate (2 * C) (second_at i) 0 0 (omega arith);
              };
        }
