-- Each branch of setting a value, as the code takes it. Assumes nothing.
use mathlib.Core.List.{[]}
use mathlib.Core.Path.{◌≡◌}
use Prim.Native.Nat.{ℕ, ◌≤◌, ◌<◌}
use borrow.Author.Tests.{lt-ltb, le-ltb}
use Rattle.rules.specs.Cells.{Lent, shape, offered}
use Rattle.rules.specs.Answers.{refused, leave}
use Rattle.rules.specs.Cursor.{set_at, set_value}

module _ (l : Lent) (i v : ℕ) where
  pub set_shape : shape l ≡ 1 → set_value l i v ≡ leave (refused 1 []) 0 l.counts
  unfolding set_value
  set_shape e = rw e

  module _ (e : shape l ≡ 0) where
    pub set_index : l.params.S ≤ i → set_value l i v ≡ leave (refused 1 []) 0 l.counts
    unfolding set_value
    set_index u = rw (e, le-ltb i l.params.S u)

    module _ (u : i < l.params.S) where
      pub set_offered : offered l.params.null v ≡ 3 → set_value l i v ≡ leave (refused 3 []) 0 l.counts
      unfolding set_value
      set_offered f = rw (e, lt-ltb i l.params.S u, f)

      pub set_past : offered l.params.null v ≡ 0 → set_value l i v ≡ set_at l.params l.cells l.value l.counts i v
      unfolding set_value
      set_past f = rw (e, lt-ltb i l.params.S u, f)
