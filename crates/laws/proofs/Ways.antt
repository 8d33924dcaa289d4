-- Every call ends in one of its ways. Assumes nothing.
use mathlib.Core.Bool.{Bool, true, false, cond, ◌&&◌}
use mathlib.Core.Logic.{◌≢◌, ◌⊎◌, inl, inr}
use mathlib.Core.Path.{◌≡◌, refl}
use Prim.Native.Nat.{ℕ, ◌+◌, ◌%◌}
use native.Mathlib.Omega.{arith}
use borrow.Author.Tests.{eqb-true, eqb-false, ltb-true, ltb-false}
use lib.Dec.{eqb, ltb, leb}
use lib.ListN.{length}
use Rattle.rules.specs.Cells.{Cells, Counts, Lent, shape, offered, zero_hash}
use Rattle.rules.specs.Walk.{Stop, met, tail, broken, walk, Hit, free, none, probe_from}
use Rattle.rules.specs.Answers.{Said, absent, new, replaced, revived, removed, unlinked, Change, store, fill, Outcome, leave, Counted, is, out, counts_after, counted, settle}
use Rattle.rules.specs.Calls.{insert_seen, insert_met, insert_hit, insert_at, insert_stored, insert, remove_at, remove_in, remove, find}
use Rattle.laws.specs.Ways as ways
use Rattle.laws.specs.Ways.{Added, room, over, InsertWay, RemoveWay, InsertChecked, RemoveChecked, FindChecked}

-- ---- settling

module _ (S : ℕ) (c : Counts) (n : ℕ) (change : Change) where
  -- an answer after which live is one more, where there is room
  added : (s : Said) → counts_after S c s ≡ cond {A = Counted} (ltb c.live S) (is (record { live = c.live + 1 })) out
      → Added S c n s change (settle S c n s change)
  unfolding settle
  added s counts = rw counts (go (ltb c.live S) refl)
    where
      go : (b : Bool) → ltb c.live S ≡ b
          → Added S c n s change (counted s n c change (cond {A = Counted} b (is (record { live = c.live + 1 })) out))
      go true e = room (ltb-true _ _ e) refl
      go false e = over (ltb-false _ _ e) refl

  new_added : Added S c n new change (settle S c n new change)
  new_added = added new refl

  revived_added : Added S c n revived change (settle S c n revived change)
  revived_added = added revived refl

  -- Replaced leaves the counts
  replaced_settled : (old : ℕ) → settle S c n (replaced old) change ≡ record { said = replaced old; looked = n; counts = c; change = change }
  unfolding settle
  replaced_settled old = refl

-- ---- insert past the checks

module _ (S null : ℕ) (cs : Cells) (value : ℕ → ℕ) (c : Counts) (h k v : ℕ) where
  abbrev Way : Outcome → Type 0
  Way o = InsertWay S null cs value c h k v o

  abbrev n : ℕ
  n = length (insert_seen S cs h k)

  -- where the walk met
  met_way : (q : ℕ) → cs.hash (h % S) ≢ 0 → (walk S cs h k).stop ≡ met q → Way (insert_met S null c n (q % S) (value (q % S)) v)
  unfolding insert_met
  met_way q taken stop = go (eqb (value (q % S)) null) refl
    where
      go : (b : Bool) → eqb (value (q % S)) null ≡ b
          → Way (cond {A = Outcome} b (settle S c n revived (store (q % S) v)) (settle S c n (replaced (value (q % S))) (store (q % S) v)))
      go true e = ways.revives q taken stop (eqb-true _ _ e) (revived_added S c n (store (q % S) v))
      go false e = ways.replaces q taken stop (eqb-false _ _ e) (replaced_settled S c n (store (q % S) v) (value (q % S)))

  -- at the tail, by what the probe hit
  hit_way : (q : ℕ) → cs.hash (h % S) ≢ 0 → (walk S cs h k).stop ≡ tail q → (x : Hit) → (probe_from S cs q).hit ≡ x
      → Way (insert_hit S c n (length (walk S cs h k).seen) h k v q x)
  hit_way q taken stop (free d) e = ways.linked q d taken stop e (new_added S c n _)
  hit_way q taken stop none e = ways.full q taken stop e refl

  -- past a taken home, by where the walk stops
  stop_way : cs.hash (h % S) ≢ 0 → (s : Stop) → (walk S cs h k).stop ≡ s
      → Way (insert_at S null cs value c n (length (walk S cs h k).seen) h k v s)
  stop_way taken (met q) e = met_way q taken e
  stop_way taken (tail q) e = hit_way q taken e (probe_from S cs q).hit refl
  stop_way taken broken e = ways.endless taken e refl

  -- an insert past the checks ends in one of its ways
  pub insert_way : InsertWay S null cs value c h k v (insert_stored S null cs value c h k v)
  unfolding insert_stored
  insert_way = go (eqb (cs.hash (h % S)) 0) refl
    where
      go : (b : Bool) → eqb (cs.hash (h % S)) 0 ≡ b
          → Way (cond {A = Outcome} b (settle S c n new (fill (h % S) h k v unlinked)) (insert_at S null cs value c n (length (walk S cs h k).seen) h k v (walk S cs h k).stop))
      go true e = ways.homed (eqb-true _ _ e) (new_added S c n (fill (h % S) h k v unlinked))
      go false e = stop_way (eqb-false _ _ e) (walk S cs h k).stop refl

-- ---- remove past the checks

module _ (S null : ℕ) (cs : Cells) (value : ℕ → ℕ) (c : Counts) (h k : ℕ) where
  abbrev Ends : Outcome → Type 0
  Ends o = RemoveWay S null cs value c h k o

  abbrev m : ℕ
  m = length (walk S cs h k).seen

  -- met with a value, by whether live is above 0
  removes_way : (q : ℕ) → (walk S cs h k).stop ≡ met q → value (q % S) ≢ null
      → Ends (settle S c m (removed (value (q % S))) (store (q % S) null))
  unfolding settle
  removes_way q stop some = go (eqb c.live 0) refl
    where
      go : (b : Bool) → eqb c.live 0 ≡ b → Ends (settle S c m (removed (value (q % S))) (store (q % S) null))
      go true e = ways.under q stop some (eqb-true _ _ e) (rw e)
      go false e = let l : c.live ≢ 0 = eqb-false _ _ e in ways.removes q stop some (omega arith) (rw e)

  -- by where the walk stops
  removed_way : (s : Stop) → (walk S cs h k).stop ≡ s → Ends (remove_at S null value c m s)
  removed_way (met q) stop = go (eqb (value (q % S)) null) refl
    where
      go : (b : Bool) → eqb (value (q % S)) null ≡ b
          → Ends (cond {A = Outcome} b (leave absent m c) (settle S c m (removed (value (q % S))) (store (q % S) null)))
      go true e = ways.gone q stop (eqb-true _ _ e) refl
      go false e = removes_way q stop (eqb-false _ _ e)
  removed_way (tail q) stop = ways.lacks q stop refl
  removed_way broken stop = ways.endless stop refl

  -- a remove past the checks ends in one of its ways
  pub remove_way : RemoveWay S null cs value c h k (remove_in S null cs value c h k)
  unfolding remove_in
  remove_way = removed_way (walk S cs h k).stop refl

-- ---- the checks

-- each check says 0, or the number of its refusal
pub shape_says : (l : Lent) → (shape l ≡ 0) ⊎ (shape l ≡ 1)
shape_says l = go (l.shaped && leb l.counts.live l.params.S)
  where
    go : (b : Bool) → (cond {A = ℕ} b 0 1 ≡ 0) ⊎ (cond {A = ℕ} b 0 1 ≡ 1)
    go true = inl refl
    go false = inr refl

offered_says : (null v : ℕ) → (offered null v ≡ 0) ⊎ (offered null v ≡ 3)
offered_says null v = go (eqb v null)
  where
    go : (b : Bool) → (cond {A = ℕ} b 3 0 ≡ 0) ⊎ (cond {A = ℕ} b 3 0 ≡ 3)
    go true = inr refl
    go false = inl refl

hash_says : (h : ℕ) → (zero_hash h ≡ 0) ⊎ (zero_hash h ≡ 2)
hash_says h = go (eqb h 0)
  where
    go : (b : Bool) → (cond {A = ℕ} b 2 0 ≡ 0) ⊎ (cond {A = ℕ} b 2 0 ≡ 2)
    go true = inr refl
    go false = inl refl

module _ (l : Lent) (k : ℕ) where
  -- an insert is refused by 1, 3 or 2, in this order, or goes past the checks
  pub insert_checked : (v : ℕ) → InsertChecked l k v (insert l k v)
  unfolding insert
  insert_checked v = go (shape_says l) (offered_says l.params.null v) (hash_says (l.params.hash_of k))
    where
      go : (shape l ≡ 0) ⊎ (shape l ≡ 1) → (offered l.params.null v ≡ 0) ⊎ (offered l.params.null v ≡ 3)
          → (zero_hash (l.params.hash_of k) ≡ 0) ⊎ (zero_hash (l.params.hash_of k) ≡ 2)
          → InsertChecked l k v (insert l k v)
      go (inr a) y z = ways.InsertChecked.by1 a (rw a)
      go (inl a) (inr b) z = ways.InsertChecked.by3 a b (rw (a, b))
      go (inl a) (inl b) (inr d) = ways.InsertChecked.by2 a b d (rw (a, b, d))
      go (inl a) (inl b) (inl d) = ways.InsertChecked.past a b d (rw (a, b, d))

  -- a remove is refused by 1 or 2, in this order, or goes past the checks
  pub remove_checked : RemoveChecked l k (remove l k)
  unfolding remove
  remove_checked = go (shape_says l) (hash_says (l.params.hash_of k))
    where
      go : (shape l ≡ 0) ⊎ (shape l ≡ 1) → (zero_hash (l.params.hash_of k) ≡ 0) ⊎ (zero_hash (l.params.hash_of k) ≡ 2)
          → RemoveChecked l k (remove l k)
      go (inr a) z = ways.RemoveChecked.by1 a (rw a)
      go (inl a) (inr d) = ways.RemoveChecked.by2 a d (rw (a, d))
      go (inl a) (inl d) = ways.RemoveChecked.past a d (rw (a, d))

  -- a find is refused by 1 or 2, in this order, or goes past the checks
  pub find_checked : FindChecked l k (find l k)
  unfolding find
  find_checked = go (shape_says l) (hash_says (l.params.hash_of k))
    where
      go : (shape l ≡ 0) ⊎ (shape l ≡ 1) → (zero_hash (l.params.hash_of k) ≡ 0) ⊎ (zero_hash (l.params.hash_of k) ≡ 2)
          → FindChecked l k (find l k)
      go (inr a) z = ways.FindChecked.by1 a (rw a)
      go (inl a) (inr d) = ways.FindChecked.by2 a d (rw (a, d))
      go (inl a) (inl d) = ways.FindChecked.past a d (rw (a, d))
