-- What is lent, whatever its layout: readers of the cells, and the record's counts.
use Rattle.std.specs.Prelude.{Bool, cond, not, ◌&&◌, ℕ, eqb, leb}

-- how many cells there are, which value is null, and how a key is hashed
pub record Params : Type 0 where
  pub S : ℕ
  pub null : ℕ
  pub hash_of : ℕ → ℕ

-- what each cell holds but its value, by the cell's index: all that a walk reads
pub record Cells : Type 0 where
  pub hash : ℕ → ℕ
  pub key : ℕ → ℕ
  pub first : ℕ → ℕ
  pub second : ℕ → ℕ

-- what the record counts
pub record Counts : Type 0 where
  pub live : ℕ

-- what a call is lent: whether the lengths are those of a table of an allowed size, and what stands there
pub record Lent : Type 0 where
  pub shaped : Bool
  pub params : Params
  pub cells : Cells
  pub value : ℕ → ℕ
  pub counts : Counts

-- a cell is taken where its hash is not 0; to the walk every other cell is empty
abbrev pub is_taken : Cells → ℕ → Bool
is_taken cs i = not (eqb (cs.hash i) 0)

-- live: taken, and the value is not null; a taken cell that is not live is removed
abbrev pub is_live : Params → Cells → (ℕ → ℕ) → ℕ → Bool
is_live p cs value i = is_taken cs i && not (eqb (value i) p.null)

-- a cell holds this hash and key
abbrev pub holds : Cells → ℕ → ℕ → ℕ → Bool
holds cs i h k = eqb (cs.hash i) h && eqb (cs.key i) k

-- ---- the checks that come before a walk: each gives the number of its refusal, or 0

-- 1: the shape, and live at most S
abbrev pub shape : Lent → ℕ
shape l = cond (l.shaped && leb l.counts.live l.params.S) 0 1

-- a value that is offered: 3 for null
abbrev pub offered : (null v : ℕ) → ℕ
offered null v = cond (eqb v null) 3 0

-- 2: a key's hash is 0
abbrev pub zero_hash : ℕ → ℕ
zero_hash h = cond (eqb h 0) 2 0
