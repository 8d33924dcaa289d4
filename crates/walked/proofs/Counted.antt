-- The live cells of a table are as many as live says, where it is sound. Assumes nothing.
use mathlib.Core.Bool.{Bool, true, false, cond}
use mathlib.Core.List.{List, ◌∷◌}
use mathlib.Core.Path.{◌≡◌, refl, sym, ap, ◌∙◌}
use Prim.Native.Nat.{ℕ, zero, suc, ◌+◌, ◌-◌}
use native.Mathlib.Numerals.{add-one}
use native.Mathlib.Omega.{arith}
use lib.ListN.{length, length-map}
use Rattle.rules.specs.Cells.{Lent, is_live}
use Rattle.rules.specs.Sound.{one, count}
use Rattle.sound.specs.State.{SoundTable}
use Rattle.walked.specs.Walked.{numbers, passing, cell_at, live_cells}

-- the numbers from i on that pass, and those below i
passing_counted : (test : ℕ → Bool) (n i : ℕ) → length (passing test (numbers n i)) + count test i ≡ count test (i + n)
unfolding numbers passing count
passing_counted test zero i = let e : i + 0 ≡ i = omega arith in omega (arith, ap (count test) e)
passing_counted test (suc n) i =
    let e : i + 1 + n ≡ i + suc n = omega arith in
    go (test i) refl (passing_counted test n (i + 1)) (more i) (ap (count test) e)
  where
    more : (j : ℕ) → count test (j + 1) ≡ one (test j) + count test j
    more j = ap (count test) (add-one j)

    go : (b : Bool) → test i ≡ b → length (passing test (numbers n (i + 1))) + count test (i + 1) ≡ count test (i + 1 + n)
        → count test (i + 1) ≡ one (test i) + count test i
        → count test (i + 1 + n) ≡ count test (i + suc n)
        → length (cond {A = List ℕ} b (i ∷ passing test (numbers n (i + 1))) (passing test (numbers n (i + 1)))) + count test i ≡ count test (i + suc n)
    go true e ih m q = omega (arith, ap one e)
    go false e ih m q = omega (arith, ap one e)

-- there are so many live cells as the count of rule 8 says
pub live_cells_counted : (l : Lent) → length (live_cells l) ≡ count (is_live l.params l.cells l.value) l.params.S
unfolding count
live_cells_counted l =
    let live = is_live l.params l.cells l.value in
    let c = passing_counted live (l.params.S - 0) 0 in
    let e : 0 + (l.params.S - 0) ≡ l.params.S = omega arith in
    omega (arith, ap (count live) e, length-map (passing live (numbers (l.params.S - 0) 0)) (cell_at l))

-- so live, in a sound table
pub sound_live_cells : (l : Lent) → SoundTable l → length (live_cells l) ≡ l.counts.live
sound_live_cells l s = live_cells_counted l ∙ sym s.live_counts
