-- What the checks of an entry's use show.
use Rattle.std.specs.Prelude.{true, false, cond, ◌&&◌, nat_le, List, [], ◌≢◌, ◌≡◌, ℕ, Option, Some, None, Result, Ok, Err}
use Rattle.rules.specs.Answers.{Said, refused}
use Rattle.rules.specs.Entries.{Place, occupied, vacant, below, Entry}
use Rattle.cells.specs.Layout.{null, is_shaped, size_in, value_in, holds_in}
use Rattle.entries.specs.declared.looking.CellValue.{CellValue}
use Rattle.entries.specs.declared.looking.LookError.{LookError}
use Rattle.entries.specs.declared.looking.LookError.TheVariants.{ZeroHash, Stale}

-- check 1: how many cells the table has, or none where it fails
abbrev pub use_size : List ℕ → List ℕ → ℕ → Place → Option ℕ
use_size ws ds live at =
    cond (is_shaped ws ds && nat_le live (size_in ds) && below (size_in ds) at) (Some (size_in ds)) None

-- what a look at an entry's cell shows
module _ (hash_of : ℕ → ℕ) (ws : List ℕ) (e : Entry) where
  -- the entry's cell i holds its hash and key live, with the value v
  pub record HeldAt (i v : ℕ) : Type 0 where
    pub some : hash_of e.key ≢ 0
    pub own : e.hash ≡ hash_of e.key
    pub at : e.place ≡ occupied i
    pub holds : holds_in ws i e.hash e.key ≡ true
    pub value : v ≡ value_in ws i
    pub live : v ≢ null

  -- why an entry is Stale for an Occupied one's action
  pub data Unheld : Type 0 where
    other_hash : e.hash ≢ hash_of e.key → Unheld
    not_occupied : e.place ≡ vacant → Unheld
    lost : (i : ℕ) → e.place ≡ occupied i → holds_in ws i e.hash e.key ≡ false → Unheld
    gone : (i : ℕ) → e.place ≡ occupied i → value_in ws i ≡ null → Unheld

  abbrev pub Looks : Result CellValue LookError → Type 0
  Looks (Ok cell) = HeldAt cell.index cell.value
  Looks (Err ZeroHash) = hash_of e.key ≡ 0
  Looks (Err Stale) = (hash_of e.key ≢ 0) × Unheld

-- a look's refusal, by 01's number
abbrev pub look_failed : LookError → Said
look_failed ZeroHash = refused 2 []
look_failed Stale = refused 7 []
