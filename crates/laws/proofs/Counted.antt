-- Live by the answer: New and Revived add 1, Removed takes 1, every other answer leaves it. Assumes nothing.
use mathlib.Core.Path.{◌≡◌, refl, sym, ap, ◌∙◌}
use Prim.Native.Nat.{ℕ, ◌+◌, ◌≤◌}
use native.Mathlib.Omega.{arith}
use Rattle.rules.specs.Cells.{Cells, Counts, Lent}
use Rattle.rules.specs.Answers.{Said, new, revived, removed, Change, Outcome}
use Rattle.rules.specs.Calls.{insert_stored, insert, remove_in, remove}
use Rattle.laws.specs.Ways as ways
use Rattle.laws.specs.Ways.{Added, room, over, InsertWay, RemoveWay, InsertChecked, RemoveChecked}
use Rattle.laws.specs.Left.{live_after}
use Rattle.laws.proofs.Ways.{insert_way, remove_way, insert_checked, remove_checked}

-- live after the outcome o is what its answer makes of it
abbrev CountsBy : Counts → Outcome → Type 0
CountsBy c o = o.counts.live ≡ live_after o.said c.live

added_counted : {S : ℕ} {c : Counts} {n : ℕ} (s : Said) {change : Change} (o : Outcome) → live_after s c.live ≡ c.live + 1 → Added S c n s change o
    → CountsBy c o
added_counted s o a (room l e) = rw e (sym a)
added_counted s o a (over l e) = rw e

module _ (S null : ℕ) (cs : Cells) (value : ℕ → ℕ) (c : Counts) (h k : ℕ) where
  -- live after an insert past the checks
  pub stored_counted : (v : ℕ)
      → (insert_stored S null cs value c h k v).counts.live ≡ live_after (insert_stored S null cs value c h k v).said c.live
  stored_counted v = go (insert_stored S null cs value c h k v) (insert_way S null cs value c h k v)
    where
      go : (o : Outcome) → InsertWay S null cs value c h k v o → CountsBy c o
      go o (ways.homed a b) = added_counted new o refl b
      go o (ways.replaces q a b d e) = rw e
      go o (ways.revives q a b d e) = added_counted revived o refl e
      go o (ways.linked q d a b x e) = added_counted new o refl e
      go o (ways.full q a b x e) = rw e
      go o (ways.endless a b e) = rw e

  -- live after a remove past the checks
  pub removing_counted : (remove_in S null cs value c h k).counts.live ≡ live_after (remove_in S null cs value c h k).said c.live
  removing_counted = go (remove_in S null cs value c h k) (remove_way S null cs value c h k)
    where
      go : (o : Outcome) → RemoveWay S null cs value c h k o → CountsBy c o
      go o (ways.lacks q a e) = rw e
      go o (ways.gone q a b e) = rw e
      go o (ways.removes q a b d e) = rw e
      go o (ways.under q a b d e) = rw e
      go o (ways.endless a e) = rw e

  -- where a remove past the checks says Removed, live was at least 1
  pub removing_some : (v : ℕ) → (remove_in S null cs value c h k).said ≡ removed v → 1 ≤ c.live
  removing_some v e = go (remove_in S null cs value c h k) (remove_way S null cs value c h k) e
    where
      go : (o : Outcome) → RemoveWay S null cs value c h k o → o.said ≡ removed v → 1 ≤ c.live
      go o (ways.lacks q a e) x = let z : ◌≡◌ {A = ℕ} 0 1 = cc in absurd (omega arith)
      go o (ways.gone q a b e) x = let z : ◌≡◌ {A = ℕ} 0 1 = cc in absurd (omega arith)
      go o (ways.removes q a b d e) x = d
      go o (ways.under q a b d e) x = let z : ◌≡◌ {A = ℕ} 0 1 = cc in absurd (omega arith)
      go o (ways.endless a e) x = let z : ◌≡◌ {A = ℕ} 0 1 = cc in absurd (omega arith)

module _ (l : Lent) (k : ℕ) where
  -- live after an insert
  pub insert_counted : (v : ℕ) → (insert l k v).counts.live ≡ live_after (insert l k v).said l.counts.live
  insert_counted v = go (insert l k v) (insert_checked l k v)
    where
      go : (o : Outcome) → InsertChecked l k v o → CountsBy l.counts o
      go o (ways.by1 a e) = rw e
      go o (ways.by3 a b e) = rw e
      go o (ways.by2 a b d e) = rw e
      go o (ways.past a b d e) =
          rw e (stored_counted l.params.S l.params.null l.cells l.value l.counts (l.params.hash_of k) k v)

  -- live after a remove
  pub remove_counted : (remove l k).counts.live ≡ live_after (remove l k).said l.counts.live
  remove_counted = go (remove l k) (remove_checked l k)
    where
      go : (o : Outcome) → RemoveChecked l k o → CountsBy l.counts o
      go o (ways.by1 a e) = rw e
      go o (ways.by2 a d e) = rw e
      go o (ways.past a d e) = rw e (removing_counted l.params.S l.params.null l.cells l.value l.counts (l.params.hash_of k) k)

  -- where a remove says Removed, live was at least 1
  pub remove_some : (v : ℕ) → (remove l k).said ≡ removed v → 1 ≤ l.counts.live
  remove_some v x = go (remove l k) (remove_checked l k) x
    where
      go : (o : Outcome) → RemoveChecked l k o → o.said ≡ removed v → 1 ≤ l.counts.live
      go o (ways.by1 a e) x = let z : ◌≡◌ {A = ℕ} 0 1 = cc in absurd (omega arith)
      go o (ways.by2 a d e) x = let z : ◌≡◌ {A = ℕ} 0 1 = cc in absurd (omega arith)
      go o (ways.past a d e) x =
          removing_some l.params.S l.params.null l.cells l.value l.counts (l.params.hash_of k) k v (ap (λ (o : Outcome). o.said) (sym e) ∙ x)
