-- What a call that inserts hands back, from the outcome that its branch of the rules gives. Assumes nothing.
use Rattle.std.specs.Prelude.{Option, Some, Result, Ok, Err}
use mathlib.Core.List.{List}
use mathlib.Core.Path.{◌≡◌, ◌∙◌}
use Prim.Native.Nat.{ℕ, ◌+◌, ◌*◌}
use lib.ListN.{set}
use Rattle.hashers.specs.Keys.{hash_of}
use Rattle.rules.specs.Cells.{offered}
use Rattle.rules.specs.Answers.{Said, store, Outcome, leave}
use Rattle.rules.specs.Entries.{Place, occupied, vacant, Action, inserting, offers, on_case, used_at, use_entry}
use Rattle.cells.specs.declared.Table.{Table}
use Rattle.cells.specs.Layout.{null, lent, done_by, counts_of}
use Rattle.entries.specs.declared.looking.CellValue.{CellValue}
use Rattle.entries.specs.declared.looking.LookError.{LookError}
use Rattle.entries.specs.declared.record.Entry.{Entry}
use Rattle.entries.specs.Answers.{place_of, entry_in}
use Rattle.entries.specs.Workers.{use_size, Looks, look_failed}
use Rattle.entries.proofs.Using.{looked_at, on_held, on_error}
use Rattle.entryinsert.specs.declared.giving.Doing.{Doing}
use Rattle.entryinsert.specs.declared.giving.Doing.TheVariants.{Refuse, Keep, Replace}
use Rattle.entryinsert.specs.Answers.{handed_by}
use Rattle.entryinsert.specs.Workers.{doing}

module _ (o : Outcome) (e : Entry) (t : Table) (ws ds : List ℕ) (told : Said) where
  -- nothing was changed: the entry stays
  pub handed_left : {s : Said} → told ≡ s → o ≡ leave s 0 (counts_of t.live)
      → record { entry = entry_in e; left = record { done = record { said = told; looked = 0; counts = counts_of t.live; words = ws; deltas = ds }; hasher = t.hasher } } ≡ handed_by o (entry_in e) t ws ds
  unfolding done_by
  handed_left f q = rw (q, f)

  -- a value was stored in the entry's own cell
  pub handed_stored : (i v : ℕ) {ws' : List ℕ} → o ≡ record { said = told; looked = 0; counts = counts_of t.live; change = store i v } → place_of e.place ≡ occupied i → ws' ≡ set ws (3 * i + 2) v
      → record { entry = entry_in e; left = record { done = record { said = told; looked = 0; counts = counts_of t.live; words = ws'; deltas = ds }; hasher = t.hasher } } ≡ handed_by o (entry_in e) t ws ds
  unfolding done_by
  handed_stored i v q p w = rw (q, p, w)

-- what the code does offers the value, in either case
pub case_offers : (p : Place) (d : Doing) (v n : ℕ) → offered null v ≡ n → offers null (on_case p (doing d v) (inserting v)) ≡ n
case_offers (occupied i) Refuse v n e = e
case_offers (occupied i) Keep v n e = e
case_offers (occupied i) Replace v n e = e
case_offers vacant d v n e = e

pub case_vacant : (p : Place) (a b : Action) → p ≡ vacant → on_case p a b ≡ b
case_vacant p a b q = rw q

-- ---- an Occupied entry, by what its look answered

module _ (ws ds : List ℕ) (t : Table) (e : Entry) (d : Doing) (v : ℕ) {m : Option ℕ} {n : ℕ} (k : m ≡ use_size ws ds t.live (place_of e.place)) (s : m ≡ Some n)
    (o : offered null v ≡ 0) (r : Result CellValue LookError) (w : Looks (hash_of t.hasher) ws (entry_in e) r) where
  pub case_held : (cell : CellValue) → r ≡ Ok cell
      → use_entry (lent ws ds t) (entry_in e) (on_case (place_of e.place) (doing d v) (inserting v)) ≡ used_at (lent ws ds t) cell.index cell.value (doing d v)
  case_held cell q =
      on_held ws ds t (entry_in e) _ k s (case_offers (place_of e.place) d v 0 o) r w cell q ∙ rw (looked_at (hash_of t.hasher) ws (entry_in e) r w cell q)

  pub case_error : (i : ℕ) → place_of e.place ≡ occupied i → (x : LookError) → r ≡ Err x
      → use_entry (lent ws ds t) (entry_in e) (on_case (place_of e.place) (doing d v) (inserting v)) ≡ leave (look_failed x) 0 (counts_of t.live)
  case_error i p x q = on_error ws ds t (entry_in e) _ k s (case_offers (place_of e.place) d v 0 o) r w x q (λ z. absurd (occupied_not_vacant z))
    where
      occupied_not_vacant : place_of e.place ≡ vacant → ⊥
      occupied_not_vacant z = cc
