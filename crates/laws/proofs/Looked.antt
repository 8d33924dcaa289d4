-- The number of cells that a call reports as looked at: the length of its list of positions. Assumes nothing.
use mathlib.Core.Bool.{Bool, true, false, cond}
use mathlib.Core.List.{[], ◌∷◌, ◌++◌}
use mathlib.Core.Logic.{◌≢◌}
use mathlib.Core.Path.{◌≡◌, refl, ap, ◌∙◌}
use Prim.Native.Nat.{ℕ, ◌+◌, ◌%◌, ◌≤◌}
use native.Mathlib.Omega.{arith}
use borrow.Author.Tests.{ne_eqb}
use lib.Dec.{eqb}
use lib.ListN.{length, length-append}
use Rattle.rules.specs.Sizes.{window, probe_limit}
use Rattle.rules.specs.Cells.{Cells, Counts, Lent, shape}
use Rattle.rules.specs.Walk.{Stop, met, tail, broken, walk, Hit, free, none, probe_from}
use Rattle.rules.specs.Answers.{Said, Change, Answer, Outcome}
use Rattle.rules.specs.Calls.{probed, insert_seen, insert_stored, insert, remove_in, remove, find_in, find}
use Rattle.steps.proofs.Walking.{walk_length}
use Rattle.steps.proofs.Probing.{Span, probe_span}
use Rattle.laws.specs.Ways as ways
use Rattle.laws.specs.Ways.{Added, room, over, InsertWay, RemoveWay, InsertChecked, RemoveChecked, FindChecked}
use Rattle.laws.proofs.Ways.{insert_way, remove_way, insert_checked, remove_checked, find_checked}
use Rattle.laws.proofs.Stops.{broken_looked}

-- ---- past the checks

added_looked : {S : ℕ} {c : Counts} {n : ℕ} {s : Said} {change : Change} (o : Outcome) → Added S c n s change o → o.looked ≡ n
added_looked o (room l e) = ap (λ (o : Outcome). o.looked) e
added_looked o (over l e) = ap (λ (o : Outcome). o.looked) e

module _ (S null : ℕ) (cs : Cells) (value : ℕ → ℕ) (h k : ℕ) where
  -- a find past the checks reports its walk
  pub finding_looked : (find_in S null cs value h k).looked ≡ length (walk S cs h k).seen
  unfolding find_in
  finding_looked = refl

  -- a remove past the checks reports its walk
  pub removing_looked : (c : Counts) → (remove_in S null cs value c h k).looked ≡ length (walk S cs h k).seen
  removing_looked c = go (remove_in S null cs value c h k) (remove_way S null cs value c h k)
    where
      go : (o : Outcome) → RemoveWay S null cs value c h k o → o.looked ≡ length (walk S cs h k).seen
      go o (ways.lacks q a e) = ap (λ (o : Outcome). o.looked) e
      go o (ways.gone q a b e) = ap (λ (o : Outcome). o.looked) e
      go o (ways.removes q a b d e) = ap (λ (o : Outcome). o.looked) e
      go o (ways.under q a b d e) = ap (λ (o : Outcome). o.looked) e
      go o (ways.endless a e) = ap (λ (o : Outcome). o.looked) e

  -- an insert past the checks reports its positions, whatever it answers
  pub stored_looked : (c : Counts) (v : ℕ) → (insert_stored S null cs value c h k v).looked ≡ length (insert_seen S cs h k)
  stored_looked c v = go (insert_stored S null cs value c h k v) (insert_way S null cs value c h k v)
    where
      go : (o : Outcome) → InsertWay S null cs value c h k v o → o.looked ≡ length (insert_seen S cs h k)
      go o (ways.homed a b) = added_looked o b
      go o (ways.replaces q a b d e) = ap (λ (o : Outcome). o.looked) e
      go o (ways.revives q a b d e) = added_looked o e
      go o (ways.linked q d a b x e) = added_looked o e
      go o (ways.full q a b x e) = ap (λ (o : Outcome). o.looked) e
      go o (ways.endless a b e) = ap (λ (o : Outcome). o.looked) e

-- ---- at most so many

probe_most : (S : ℕ) (cs : Cells) (q : ℕ) → length (probe_from S cs q).seen ≤ window S
probe_most S cs q = go (probe_from S cs q).hit (probe_span S cs.hash q (window S) 1)
  where
    go : (x : Hit) → Span x (window S) 1 (length (probe_from S cs q).seen) → length (probe_from S cs q).seen ≤ window S
    go (free m) s = omega (arith, s.0, s.1, s.2)
    go none s = omega (arith, s)

probed_most : (S : ℕ) (cs : Cells) (s : Stop) → length (probed S cs s) ≤ window S
probed_most S cs (met q) = omega arith
probed_most S cs (tail q) = probe_most S cs q
probed_most S cs broken = omega arith

-- the positions of an insert are at most S and those of the window
pub positions_most : (S : ℕ) (cs : Cells) (h k : ℕ) → 1 ≤ S → length (insert_seen S cs h k) ≤ S + window S
unfolding insert_seen
positions_most S cs h k l = go (eqb (cs.hash (h % S)) 0)
  where
    go : (b : Bool) → length (cond b (h ∷ []) ((walk S cs h k).seen ++ probed S cs (walk S cs h k).stop)) ≤ S + window S
    go true = omega arith
    go false =
        omega (arith, length-append (walk S cs h k).seen (probed S cs (walk S cs h k).stop), walk_length S cs h k l, probed_most S cs (walk S cs h k).stop)

-- where what passes check 1 has a cell
module _ (l : Lent) (some : shape l ≡ 0 → 1 ≤ l.params.S) (k : ℕ) where
  -- a find looks at no more than S cells
  pub find_most : (find l k).looked ≤ l.params.S
  find_most = go (find l k) (find_checked l k)
    where
      go : (a : Answer) → FindChecked l k a → a.looked ≤ l.params.S
      go a (ways.by1 x e) = rw e (omega arith)
      go a (ways.by2 x y e) = rw e (omega arith)
      go a (ways.past x y e) =
          let p = l.params in
          rw (e, finding_looked p.S p.null l.cells l.value (p.hash_of k) k) (walk_length p.S l.cells (p.hash_of k) k (some x))

  -- a remove looks at no more than S cells
  pub remove_most : (remove l k).looked ≤ l.params.S
  remove_most = go (remove l k) (remove_checked l k)
    where
      go : (o : Outcome) → RemoveChecked l k o → o.looked ≤ l.params.S
      go o (ways.by1 x e) = rw e (omega arith)
      go o (ways.by2 x y e) = rw e (omega arith)
      go o (ways.past x y e) =
          let p = l.params in
          rw (e, removing_looked p.S p.null l.cells l.value (p.hash_of k) k l.counts) (walk_length p.S l.cells (p.hash_of k) k (some x))

  module _ (v : ℕ) where
    -- an insert looks at no more than S cells and the window
    pub insert_most : (insert l k v).looked ≤ l.params.S + window l.params.S
    insert_most = go (insert l k v) (insert_checked l k v)
      where
        go : (o : Outcome) → InsertChecked l k v o → o.looked ≤ l.params.S + window l.params.S
        go o (ways.by1 x e) = rw e (omega arith)
        go o (ways.by3 x y e) = rw e (omega arith)
        go o (ways.by2 x y z e) = rw e (omega arith)
        go o (ways.past x y z e) =
            let p = l.params in
            rw (e, stored_looked p.S p.null l.cells l.value (p.hash_of k) k l.counts v) (positions_most p.S l.cells (p.hash_of k) k (some x))

    -- and so at no more than S + 128
    pub insert_most_128 : (insert l k v).looked ≤ l.params.S + probe_limit
    insert_most_128 = omega (arith, insert_most)

-- ---- Broken by walk rule 3: exactly S, the home and S - 1 links

module _ (S null : ℕ) (cs : Cells) (value : ℕ → ℕ) (h k : ℕ) (some : 1 ≤ S) (e : (walk S cs h k).stop ≡ broken) where
  -- a find whose walk is broken reports S
  pub finding_broken_looked : (find_in S null cs value h k).looked ≡ S
  finding_broken_looked = finding_looked S null cs value h k ∙ broken_looked S cs h k some e

  -- so does a remove
  pub removing_broken_looked : (c : Counts) → (remove_in S null cs value c h k).looked ≡ S
  removing_broken_looked c = removing_looked S null cs value h k c ∙ broken_looked S cs h k some e

  walk_only : cs.hash (h % S) ≢ 0 → length (insert_seen S cs h k) ≡ length (walk S cs h k).seen
  unfolding insert_seen
  walk_only taken =
      rw (ne_eqb _ 0 taken, e) (omega (arith, length-append (walk S cs h k).seen []))

  -- and an insert whose home is taken
  pub stored_broken_looked : (c : Counts) (v : ℕ) → cs.hash (h % S) ≢ 0 → (insert_stored S null cs value c h k v).looked ≡ S
  stored_broken_looked c v taken = stored_looked S null cs value h k c v ∙ walk_only taken ∙ broken_looked S cs h k some e
