-- A call changes only the S cells of its table. Assumes nothing.
use mathlib.Core.Bool.{Bool, true, false, cond}
use mathlib.Core.Path.{◌≡◌}
use Prim.Native.Nat.{ℕ, ◌%◌, ◌≤◌, ◌<◌}
use native.Mathlib.Nat.{mod-lt}
use lib.Dec.{eqb}
use lib.ListN.{length}
use Rattle.rules.specs.Cells.{Cells, Counts, Lent, shape}
use Rattle.rules.specs.Walk.{walk}
use Rattle.rules.specs.Answers.{Said, Link, as_first, as_second, Change, Outcome}
use Rattle.rules.specs.Calls.{link_from, insert_stored, insert, remove_in, remove}
use Rattle.cells.proofs.Views.{LinkWithin, Within}
use Rattle.laws.specs.Ways as ways
use Rattle.laws.specs.Ways.{Added, room, over, InsertWay, RemoveWay, InsertChecked, RemoveChecked}
use Rattle.laws.proofs.Ways.{insert_way, remove_way, insert_checked, remove_checked}

module _ (S null : ℕ) (cs : Cells) (value : ℕ → ℕ) (c : Counts) (h k : ℕ) (some : 1 ≤ S) where
  cell_within : (x : ℕ) → x % S < S
  cell_within x = mod-lt x {m = S} some

  link_within : (n t d : ℕ) → LinkWithin S (link_from S n h t d)
  link_within n t d = go (eqb n 1)
    where
      go : (b : Bool) → LinkWithin S (cond {A = Link} b (as_first (h % S) d) (as_second (t % S) d))
      go true = cell_within h
      go false = cell_within t

  added_within : {n : ℕ} {s : Said} (change : Change) (o : Outcome) → Within S change → Added S c n s change o → Within S o.change
  added_within change o w (room l e) = rw e w
  added_within change o w (over l e) = rw e tt

  -- so an insert past the checks
  pub stored_within : (v : ℕ) → Within S (insert_stored S null cs value c h k v).change
  stored_within v = go (insert_stored S null cs value c h k v) (insert_way S null cs value c h k v)
    where
      go : (o : Outcome) → InsertWay S null cs value c h k v o → Within S o.change
      go o (ways.homed a b) = added_within _ o (cell_within h, tt) b
      go o (ways.replaces q a b d e) = rw e (cell_within q)
      go o (ways.revives q a b d e) = added_within _ o (cell_within q) e
      go o (ways.linked q d a b x e) = added_within _ o (cell_within _, link_within (length (walk S cs h k).seen) q d) e
      go o (ways.full q a b x e) = rw e tt
      go o (ways.endless a b e) = rw e tt

  -- and a remove past the checks
  pub removing_within : Within S (remove_in S null cs value c h k).change
  removing_within = go (remove_in S null cs value c h k) (remove_way S null cs value c h k)
    where
      go : (o : Outcome) → RemoveWay S null cs value c h k o → Within S o.change
      go o (ways.lacks q a e) = rw e tt
      go o (ways.gone q a b e) = rw e tt
      go o (ways.removes q a b d e) = rw e (cell_within q)
      go o (ways.under q a b d e) = rw e tt
      go o (ways.endless a e) = rw e tt

-- where what passes check 1 has a cell
module _ (l : Lent) (some : shape l ≡ 0 → 1 ≤ l.params.S) (k : ℕ) where
  -- an insert changes cells of the table alone
  pub insert_within : (v : ℕ) → Within l.params.S (insert l k v).change
  insert_within v = go (insert l k v) (insert_checked l k v)
    where
      go : (o : Outcome) → InsertChecked l k v o → Within l.params.S o.change
      go o (ways.by1 a e) = rw e tt
      go o (ways.by3 a b e) = rw e tt
      go o (ways.by2 a b d e) = rw e tt
      go o (ways.past a b d e) =
          rw e (stored_within l.params.S l.params.null l.cells l.value l.counts (l.params.hash_of k) k (some a) v)

  -- so does a remove
  pub remove_within : Within l.params.S (remove l k).change
  remove_within = go (remove l k) (remove_checked l k)
    where
      go : (o : Outcome) → RemoveChecked l k o → Within l.params.S o.change
      go o (ways.by1 a e) = rw e tt
      go o (ways.by2 a d e) = rw e tt
      go o (ways.past a d e) =
          rw e (removing_within l.params.S l.params.null l.cells l.value l.counts (l.params.hash_of k) k (some a))
