-- Sound tables: 01's eight rules, in its order. Each is a predicate of its own that says something of any table.
use Rattle.std.specs.Prelude.{Bool, true, false, cond, List, [], ◌∷◌, ◌≢◌, ◌⊎◌, ◌≡◌, ℕ, zero, suc, ◌+◌, ◌-◌, ◌%◌, ◌≤◌, ◌<◌, eqb}
use Rattle.rules.specs.Sizes.{window}
use Rattle.rules.specs.Cells.{Params, Cells, Counts, is_live}

abbrev pub Taken : Cells → ℕ → Type 0
Taken cs i = cs.hash i ≢ 0

-- the home of a taken cell
abbrev pub home_of : (S : ℕ) → Cells → ℕ → ℕ
home_of S cs i = cs.hash i % S

-- i is one of a list of cells
abbrev pub Among : ℕ → List ℕ → Type 0
Among i [] = ⊥
Among i (j ∷ l) = (i ≡ j) ⊎ Among i l

-- how many numbers below n pass a test
abbrev pub one : Bool → ℕ
one true = 1
one false = 0

unfoldable pub count : (ℕ → Bool) → ℕ → ℕ
count test zero = 0
count test (suc n) = one (test n) + count test n

-- ---- chains

-- the cells that links reach, in order, and the delta after the last of them
pub record Chain : Type 0 where
  pub cells : List ℕ
  pub left : ℕ

-- from cell i follow the delta d, then second deltas, until a delta is 0, for at most n links: so a cycle has a value too
unfoldable pub links : (S : ℕ) → Cells → (n i d : ℕ) → Chain
links S cs zero i d = record { cells = []; left = d }
links S cs (suc n) i d =
    let j = (i + d) % S in
    let rest = links S cs n j (cs.second j) in
    let on : Chain = record { cells = j ∷ rest.cells; left = rest.left } in
    cond (eqb d 0) (record { cells = []; left = 0 }) on

-- the chain of home h, past the home. Every cell number below S is a home, whatever sits there.
abbrev pub chain_of : (S : ℕ) → Cells → ℕ → Chain
chain_of S cs h = links S cs (S - 1) h (cs.first h)

-- a taken cell of home h that is not the home cell
pub record OfHome (S : ℕ) (cs : Cells) (h i : ℕ) : Type 0 where
  pub taken : Taken cs i
  pub home : home_of S cs i ≡ h
  pub away : i ≢ h

-- ---- the rules

-- key 0, value null and both deltas 0
pub record Clear (null : ℕ) (cs : Cells) (value : ℕ → ℕ) (i : ℕ) : Type 0 where
  pub no_key : cs.key i ≡ 0
  pub no_value : value i ≡ null
  pub no_first : cs.first i ≡ 0
  pub no_second : cs.second i ≡ 0

-- 1. each cell that isn't taken has key 0, value null and both deltas 0
abbrev pub EmptyClear : Params → Cells → (ℕ → ℕ) → Type 0
EmptyClear p cs value = (i : ℕ) → i < p.S → cs.hash i ≡ 0 → Clear p.null cs value i

-- 2. every taken cell's hash is its key's
abbrev pub HashesKeys : Params → Cells → Type 0
HashesKeys p cs = (i : ℕ) → i < p.S → Taken cs i → cs.hash i ≡ p.hash_of (cs.key i)

-- 3. keys of taken cells differ
abbrev pub KeysDiffer : Params → Cells → Type 0
KeysDiffer p cs = (i j : ℕ) → i < p.S → j < p.S → Taken cs i → Taken cs j → cs.key i ≡ cs.key j → i ≡ j

-- 4. deltas are at most min(128, S-1)
abbrev pub DeltasNear : Params → Cells → Type 0
DeltasNear p cs = (i : ℕ) → i < p.S → (cs.first i ≤ window p.S) × (cs.second i ≤ window p.S)

-- 5. each home's chain ends within S-1 links and past the home holds only taken cells of that home, never the home cell again
pub record ChainSound (S : ℕ) (cs : Cells) (h : ℕ) : Type 0 where
  pub ends : (chain_of S cs h).left ≡ 0
  pub holds : (i : ℕ) → Among i (chain_of S cs h).cells → OfHome S cs h i

abbrev pub ChainsSound : Params → Cells → Type 0
ChainsSound p cs = (h : ℕ) → h < p.S → ChainSound p.S cs h

-- 6. each taken cell is at its home or on its home's chain
abbrev pub TakenReached : Params → Cells → Type 0
TakenReached p cs =
    (i : ℕ) → i < p.S → Taken cs i → (i ≡ home_of p.S cs i) ⊎ Among i (chain_of p.S cs (home_of p.S cs i)).cells

-- 7. a cell at its own home has second delta 0
abbrev pub HomesSecondless : Params → Cells → Type 0
HomesSecondless p cs = (i : ℕ) → i < p.S → Taken cs i → i ≡ home_of p.S cs i → cs.second i ≡ 0

-- 8. live counts taken cells that are not removed
abbrev pub LiveCounts : Params → Cells → (ℕ → ℕ) → Counts → Type 0
LiveCounts p cs value c = c.live ≡ count (is_live p cs value) p.S

pub record Sound (p : Params) (cs : Cells) (value : ℕ → ℕ) (c : Counts) : Type 0 where
  pub empty_clear : EmptyClear p cs value
  pub hashes_keys : HashesKeys p cs
  pub keys_differ : KeysDiffer p cs
  pub deltas_near : DeltasNear p cs
  pub chains_sound : ChainsSound p cs
  pub taken_reached : TakenReached p cs
  pub homes_secondless : HomesSecondless p cs
  pub live_counts : LiveCounts p cs value c

-- a fresh table: all empty, deltas 0, and live 0
pub record Fresh (p : Params) (cs : Cells) (value : ℕ → ℕ) (c : Counts) : Type 0 where
  pub empty : (i : ℕ) → i < p.S → cs.hash i ≡ 0
  pub clear : (i : ℕ) → i < p.S → Clear p.null cs value i
  pub none_live : c.live ≡ 0
