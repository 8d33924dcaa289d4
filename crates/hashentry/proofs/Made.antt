-- Each branch of the rules of making an entry, as the code takes it. Assumes nothing.
use mathlib.Core.Bool.{true, false}
use mathlib.Core.Path.{◌≡◌, sym, ap, ◌∙◌}
use Prim.Native.Nat.{ℕ, ◌%◌}
use borrow.Author.Tests.{eq-eqb, ne_eqb}
use lib.Dec.{eqb}
use Rattle.rules.specs.Cells.{Cells, Lent, shape}
use Rattle.rules.specs.Walk.{Stop, met, walk}
use Rattle.rules.specs.Entries.{occupied, vacant, made, refuses, make_at, make_in, entry_of}
use Rattle.steps.specs.Steps.{Ends}

module _ (l : Lent) (k : ℕ) where
  pub make_shape : shape l ≡ 1 → refuses 1 ≡ entry_of l k
  unfolding entry_of
  make_shape e = rw e

  module _ (h : ℕ) (eh : h ≡ l.params.hash_of k) (e : shape l ≡ 0) where
    pub make_zero : h ≡ 0 → refuses 2 ≡ entry_of l k
    unfolding entry_of
    make_zero z = rw (e, eq-eqb _ 0 (sym eh ∙ z))

    pub make_past : (h ≡ 0 → ⊥) → make_in l.params.S l.params.null l.cells l.value h k ≡ entry_of l k
    unfolding entry_of
    make_past z = rw (e, ne_eqb _ 0 (λ y. z (eh ∙ y)), eh)

module _ (S null : ℕ) (cs : Cells) (value : ℕ → ℕ) (h k : ℕ) {s : Stop} {n : ℕ} (w : Ends s n (walk S cs h k)) where
  -- what is made goes by where the walk ends
  pub make_ends : (s' : Stop) → s ≡ s' → make_at S null value h k s' ≡ make_in S null cs value h k
  unfolding make_in
  make_ends s' q = rw (← w.stop, q)

  module _ (q i v : ℕ) (e : s ≡ met q) (ei : i ≡ q % S) (ev : v ≡ value i) where
    same : v ≡ value (q % S)
    same = ev ∙ ap value ei

    pub make_removed : v ≡ null → made (record { key = k; hash = h; place = vacant }) ≡ make_in S null cs value h k
    make_removed y =
        let t : eqb (value (q % S)) null ≡ true = eq-eqb _ _ (sym same ∙ y) in
        let f = make_ends (met q) e in
        rw t at f

    pub make_live : (v ≡ null → ⊥) → made (record { key = k; hash = h; place = occupied i }) ≡ make_in S null cs value h k
    make_live y =
        let t : eqb (value (q % S)) null ≡ false = ne_eqb _ _ (λ b. y (same ∙ b)) in
        let f = make_ends (met q) e in
        rw ei (rw t at f)
