-- A move's destination once cleared, and a table that holds the live cells of another and nothing else.
use Rattle.std.specs.Prelude.{◌≢◌, ◌≡◌, ℕ, ◌<◌}
use Rattle.rules.specs.Cells.{Params, Counts, is_live}
use Rattle.rules.specs.Moves.{Held}
use Rattle.rules.specs.Sound.{Taken, Clear, count, LiveCounts}
use Rattle.sound.specs.Built.{Built, AllLive}

-- the first T cells are empty: hash 0, key 0, value null, both deltas 0
pub record IsClear (null T : ℕ) (t : Held) : Type 0 where
  pub empty : (i : ℕ) → i < T → t.cells.hash i ≡ 0
  pub clear : (i : ℕ) → i < T → Clear null t.cells t.value i

-- a cell is live: taken, and not removed
pub record LiveAt (null : ℕ) (t : Held) (i : ℕ) : Type 0 where
  pub taken : Taken t.cells i
  pub valued : t.value i ≢ null

-- cell e of a table holds what cell i of another holds: hash, key and value. Deltas are its own.
pub record SameCell (from to : Held) (i e : ℕ) : Type 0 where
  pub hash : to.cells.hash e ≡ from.cells.hash i
  pub key : to.cells.key e ≡ from.cells.key i
  pub value : to.value e ≡ from.value i

-- cell i of a source is among the first T cells of a table
pub record CopyOf (T : ℕ) (from to : Held) (i : ℕ) : Type 0 where
  pub cell : ℕ
  pub below : cell < T
  pub same : SameCell from to i cell

-- cell e of a table is a live cell among the first n of a source
pub record OriginOf (null n : ℕ) (from to : Held) (e : ℕ) : Type 0 where
  pub cell : ℕ
  pub below : cell < n
  pub live : LiveAt null from cell
  pub same : SameCell from to cell e

-- a table of p.S cells, with the counts c, that holds the live cells among the first n of a source and nothing else. Nothing is
-- asked of the source.
pub record Carried (p : Params) (from : Held) (n : ℕ) (to : Held) (c : Counts) : Type 0 where
  pub built : Built p to.cells to.value
  pub all_live : AllLive p to.cells to.value
  pub live_counts : LiveCounts p to.cells to.value c
  pub there : (i : ℕ) → i < n → LiveAt p.null from i → CopyOf p.S from to i
  pub back : (e : ℕ) → e < p.S → Taken to.cells e → OriginOf p.null n from to e
  pub total : c.live ≡ count (is_live p from.cells from.value) n
