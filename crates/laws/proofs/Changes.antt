-- What an insert and a remove change, by the answer. Assumes nothing.
use mathlib.Core.Logic.{◌≢◌}
use mathlib.Core.Path.{◌≡◌, refl, sym}
use Prim.Native.Nat.{ℕ, ◌%◌}
use borrow.Author.Tests.{eq-eqb, ne_eqb}
use lib.ListN.{length}
use Rattle.rules.specs.Cells.{Cells, Counts, Lent}
use Rattle.rules.specs.Walk.{tail, walk, on, free, probe_from}
use Rattle.rules.specs.Answers.{Said, new, revived, Change, fill, Outcome}
use Rattle.rules.specs.Calls.{link_from, insert_stored, insert, remove_in, remove}
use Rattle.laws.specs.Ways as ways
use Rattle.laws.specs.Ways.{Added, room, over, InsertWay, RemoveWay, InsertChecked, RemoveChecked}
use Rattle.laws.specs.Changes.{Linked, FilledPast, at_home, past_tail, InsertChanges, RemoveChanges}
use Rattle.laws.proofs.Ways.{insert_way, remove_way, insert_checked, remove_checked}
use Rattle.laws.proofs.Hits.{free_some, free_most, free_empty, free_first}

module _ (S null : ℕ) (cs : Cells) (value : ℕ → ℕ) (c : Counts) (h k : ℕ) where
  -- the link of rule 4
  link_rule : (t d : ℕ) → Linked S cs h k t d (link_from S (length (walk S cs h k).seen) h t d)
  link_rule t d = record { none_followed = λ e. rw (eq-eqb _ _ e); some_followed = λ e. rw (ne_eqb _ _ e) }

  module _ (v : ℕ) where
    added_changes : {n : ℕ} (s : Said) (change : Change) (o : Outcome) → InsertChanges S cs h k null value v s change → Added S c n s change o
        → InsertChanges S cs h k null value v o.said o.change
    added_changes s change o f (room l e) = rw e f
    added_changes s change o f (over l e) = rw e refl

    -- an empty cell of the window, filled and linked
    filled_past : (q d : ℕ) → cs.hash (h % S) ≢ 0 → (walk S cs h k).stop ≡ tail q → (probe_from S cs q).hit ≡ free d
        → FilledPast S cs h k v (fill (on q d % S) h k v (link_from S (length (walk S cs h k).seen) h q d))
    filled_past q d a b x =
        record {
          home_taken = a;
          last = q;
          ends = b;
          distance = d;
          some = free_some S cs q d x;
          most = free_most S cs q d x;
          empty = free_empty S cs q d x;
          first_such = free_first S cs q d x;
          link = link_from S (length (walk S cs h k).seen) h q d;
          linked = link_rule q d;
          change = refl;
        }

    insert_way_changes : (o : Outcome) → InsertWay S null cs value c h k v o → InsertChanges S cs h k null value v o.said o.change
    insert_way_changes o (ways.homed a b) = added_changes new _ o (at_home a refl) b
    insert_way_changes o (ways.replaces q a b d e) = rw e (record { position = q; met_there = b; was = refl; change = refl }, d)
    insert_way_changes o (ways.revives q a b d e) = added_changes revived _ o (record { position = q; met_there = b; was = sym d; change = refl }) e
    insert_way_changes o (ways.linked q d a b x e) = added_changes new _ o (past_tail (filled_past q d a b x)) e
    insert_way_changes o (ways.full q a b x e) = rw e refl
    insert_way_changes o (ways.endless a b e) = rw e refl

    -- what an insert past the checks changes
    pub stored_changes : InsertChanges S cs h k null value v (insert_stored S null cs value c h k v).said (insert_stored S null cs value c h k v).change
    stored_changes = insert_way_changes _ (insert_way S null cs value c h k v)

  remove_way_changes : (o : Outcome) → RemoveWay S null cs value c h k o → RemoveChanges S cs h k null value o.said o.change
  remove_way_changes o (ways.lacks q a e) = rw e refl
  remove_way_changes o (ways.gone q a b e) = rw e refl
  remove_way_changes o (ways.removes q a b d e) = rw e (record { position = q; met_there = a; was = refl; change = refl }, b)
  remove_way_changes o (ways.under q a b d e) = rw e refl
  remove_way_changes o (ways.endless a e) = rw e refl

  -- what a remove past the checks changes
  pub removing_changes : RemoveChanges S cs h k null value (remove_in S null cs value c h k).said (remove_in S null cs value c h k).change
  removing_changes = remove_way_changes _ (remove_way S null cs value c h k)

module _ (l : Lent) (k : ℕ) where
  -- what an insert changes
  pub insert_changes : (v : ℕ)
      → InsertChanges l.params.S l.cells (l.params.hash_of k) k l.params.null l.value v (insert l k v).said (insert l k v).change
  insert_changes v = go (insert l k v) (insert_checked l k v)
    where
      go : (o : Outcome) → InsertChecked l k v o
          → InsertChanges l.params.S l.cells (l.params.hash_of k) k l.params.null l.value v o.said o.change
      go o (ways.by1 a e) = rw e refl
      go o (ways.by3 a b e) = rw e refl
      go o (ways.by2 a b d e) = rw e refl
      go o (ways.past a b d e) =
          rw e (stored_changes l.params.S l.params.null l.cells l.value l.counts (l.params.hash_of k) k v)

  -- what a remove changes: one value word at most
  pub remove_changes : RemoveChanges l.params.S l.cells (l.params.hash_of k) k l.params.null l.value (remove l k).said (remove l k).change
  remove_changes = go (remove l k) (remove_checked l k)
    where
      go : (o : Outcome) → RemoveChecked l k o
          → RemoveChanges l.params.S l.cells (l.params.hash_of k) k l.params.null l.value o.said o.change
      go o (ways.by1 a e) = rw e refl
      go o (ways.by2 a d e) = rw e refl
      go o (ways.past a d e) = rw e (removing_changes l.params.S l.params.null l.cells l.value l.counts (l.params.hash_of k) k)
