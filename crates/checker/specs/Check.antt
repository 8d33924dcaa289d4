-- The checker's test, cell by cell. proofs/Decides.antt says that it passes exactly for 01's sound tables.
use Rattle.std.specs.Prelude.{ℕ, zero, suc, ◌+◌, ◌-◌, ◌%◌, Bool, true, false, cond, not, ◌&&◌, ◌==◌, nat_le, Result, Ok, Err}
use Rattle.rules.specs.Sizes.{window}
use Rattle.rules.specs.Cells.{Params, Cells, Counts, Lent, is_live, shape}
use Rattle.rules.specs.Walk.{Stop, met, tail, broken, walk}
use Rattle.rules.specs.Sound.{count}
use Rattle.checker.specs.declared.CheckError.{CheckError}
use Rattle.checker.specs.declared.CheckError.TheVariants as errors

-- every number below n passes
unfoldable pub all : (ℕ → Bool) → ℕ → Bool
all test zero = true
all test (suc n) = all test n && test n

-- cell j with this hash is taken, of home h, and not the home cell
abbrev pub of_home_test : (S h j hash : ℕ) → Bool
of_home_test S h j hash = (not (hash == 0) && hash % S == h) && not (j == h)

-- from cell i by the delta d, with n links left: only cells of home h, and an end
unfoldable pub chain_test : (S : ℕ) → Cells → (h n i d : ℕ) → Bool
chain_test S cs h zero i d = d == 0
chain_test S cs h (suc n) i d =
    let j = (i + d) % S in
    let rest = chain_test S cs h n j (cs.second j) in
    cond (d == 0) true (of_home_test S h j (cs.hash j) && rest)

-- a walk that stopped met the key at cell i
abbrev pub stops_at : (S i : ℕ) → Stop → Bool
stops_at S i (met q) = q % S == i
stops_at S i (tail q) = false
stops_at S i broken = false

-- the walk for cell i's own hash and key meets it there: so no other cell on the way holds them, and cell i is on its chain
unfoldable pub met_test : (S : ℕ) → Cells → ℕ → Bool
met_test S cs i = stops_at S i (walk S cs (cs.hash i) (cs.key i)).stop

-- key 0, value null, both deltas 0
unfoldable pub empty_test : (null : ℕ) → Cells → (ℕ → ℕ) → ℕ → Bool
empty_test null cs value i = ((cs.key i == 0 && value i == null) && cs.first i == 0) && cs.second i == 0

-- a cell at its own home has second delta 0
abbrev pub home_test : (S i hash second : ℕ) → Bool
home_test S i hash second = cond (hash % S == i) (second == 0) true

-- the hash is the key's, no second delta at home, and met there
unfoldable pub taken_test : Params → Cells → ℕ → Bool
taken_test p cs i =
    (cs.hash i == p.hash_of (cs.key i) && home_test p.S i (cs.hash i) (cs.second i)) && met_test p.S cs i

-- both deltas within the window, the chain of home i in order, and what an empty or a taken cell must be
unfoldable pub cell_test : Params → Cells → (ℕ → ℕ) → ℕ → Bool
cell_test p cs value i =
    ((nat_le (cs.first i) (window p.S) && nat_le (cs.second i) (window p.S)) && chain_test p.S cs i (p.S - 1) i (cs.first i))
    && cond (cs.hash i == 0) (empty_test p.null cs value i) (taken_test p cs i)

-- every cell passes, and live counts the live cells
unfoldable pub sound_test : Params → Cells → (ℕ → ℕ) → Counts → Bool
sound_test p cs value c = all (cell_test p cs value) p.S && c.live == count (is_live p cs value) p.S

-- what is said: sound, or a refusal by its number
pub data Check : Type 0 where
  sound : Check
  refused : ℕ → Check

unfoldable pub check_rule : Lent → Check
check_rule l =
    cond (shape l == 0) (cond (sound_test l.params l.cells l.value l.counts) sound (refused 9)) (refused 1)

-- each case's number
abbrev pub check_said : Result Unit CheckError → Check
check_said (Ok u) = sound
check_said (Err errors.Shape) = refused 1
check_said (Err errors.Unsound) = refused 9
