-- A refused call leaves all. Assumes nothing.
use mathlib.Core.List.{List}
use mathlib.Core.Path.{◌≡◌, refl, sym, ap, ◌∙◌}
use Prim.Native.Nat.{ℕ}
use native.Mathlib.Omega.{arith}
use Rattle.rules.specs.Cells.{Cells, Counts, Lent}
use Rattle.rules.specs.Answers.{Said, refused, Change, Outcome, leave}
use Rattle.rules.specs.Calls.{insert_stored, insert, remove_in, remove}
use Rattle.laws.specs.Ways as ways
use Rattle.laws.specs.Ways.{Added, room, over, InsertWay, RemoveWay, InsertChecked, RemoveChecked}
use Rattle.laws.specs.Left.{Leaves}
use Rattle.laws.proofs.Ways.{insert_way, remove_way, insert_checked, remove_checked}

-- an answer that is left by all
left_all : (s : Said) (n : ℕ) (c : Counts) (o : Outcome) → o ≡ leave s n c → Leaves c o
left_all s n c o e = rw e (record { change = refl; counts = refl })

module _ (r : ℕ) (carried : List ℕ) where
  added_leaves : (S : ℕ) (c : Counts) (n : ℕ) (s : Said) (change : Change) (o : Outcome) → (s ≡ refused r carried → ⊥) → Added S c n s change o
      → o.said ≡ refused r carried → Leaves c o
  added_leaves S c n s change o other (room l e) e' = absurd (other (cc))
  added_leaves S c n s change o other (over l e) e' = left_all _ n c o e

  module _ (S null : ℕ) (cs : Cells) (value : ℕ → ℕ) (c : Counts) (h k : ℕ) where
    way_leaves : (v : ℕ) (o : Outcome) → InsertWay S null cs value c h k v o → o.said ≡ refused r carried → Leaves c o
    way_leaves v o (ways.homed a b) e = added_leaves S c _ _ _ o (λ x. let z : ◌≡◌ {A = ℕ} 0 1 = cc in absurd (omega arith)) b e
    way_leaves v o (ways.replaces q a b d f) e = let z : ◌≡◌ {A = ℕ} 0 1 = cc in absurd (omega arith)
    way_leaves v o (ways.revives q a b d f) e = added_leaves S c _ _ _ o (λ x. let z : ◌≡◌ {A = ℕ} 0 1 = cc in absurd (omega arith)) f e
    way_leaves v o (ways.linked q d a b f g) e = added_leaves S c _ _ _ o (λ x. let z : ◌≡◌ {A = ℕ} 0 1 = cc in absurd (omega arith)) g e
    way_leaves v o (ways.full q a b f g) e = left_all _ _ c o g
    way_leaves v o (ways.endless a b f) e = left_all _ _ c o f

    -- an insert past the checks that is refused leaves all
    pub stored_refused_leaves : (v : ℕ) → (insert_stored S null cs value c h k v).said ≡ refused r carried → Leaves c (insert_stored S null cs value c h k v)
    stored_refused_leaves v e = way_leaves v _ (insert_way S null cs value c h k v) e

    remove_way_leaves : (o : Outcome) → RemoveWay S null cs value c h k o → o.said ≡ refused r carried → Leaves c o
    remove_way_leaves o (ways.lacks q a f) e = left_all _ _ c o f
    remove_way_leaves o (ways.gone q a b f) e = left_all _ _ c o f
    remove_way_leaves o (ways.removes q a b d f) e = let z : ◌≡◌ {A = ℕ} 0 1 = cc in absurd (omega arith)
    remove_way_leaves o (ways.under q a b d f) e = left_all _ _ c o f
    remove_way_leaves o (ways.endless a f) e = left_all _ _ c o f

    -- a remove past the checks that is refused leaves all
    pub removing_refused_leaves : (remove_in S null cs value c h k).said ≡ refused r carried → Leaves c (remove_in S null cs value c h k)
    removing_refused_leaves e = remove_way_leaves _ (remove_way S null cs value c h k) e

  module _ (l : Lent) (k : ℕ) where
    -- an insert that is refused leaves all
    pub insert_refused_leaves : (v : ℕ) → (insert l k v).said ≡ refused r carried → Leaves l.counts (insert l k v)
    insert_refused_leaves v e = go (insert l k v) (insert_checked l k v) e
      where
        go : (o : Outcome) → InsertChecked l k v o → o.said ≡ refused r carried → Leaves l.counts o
        go o (ways.by1 a x) e = left_all _ 0 _ o x
        go o (ways.by3 a b x) e = left_all _ 0 _ o x
        go o (ways.by2 a b d x) e = left_all _ 0 _ o x
        go o (ways.past a b d x) e =
            rw x (stored_refused_leaves l.params.S l.params.null l.cells l.value l.counts (l.params.hash_of k) k v (ap (λ (o : Outcome). o.said) (sym x) ∙ e))

    -- a remove that is refused leaves all
    pub remove_refused_leaves : (remove l k).said ≡ refused r carried → Leaves l.counts (remove l k)
    remove_refused_leaves e = go (remove l k) (remove_checked l k) e
      where
        go : (o : Outcome) → RemoveChecked l k o → o.said ≡ refused r carried → Leaves l.counts o
        go o (ways.by1 a x) e = left_all _ 0 _ o x
        go o (ways.by2 a d x) e = left_all _ 0 _ o x
        go o (ways.past a d x) e =
            rw x (removing_refused_leaves l.params.S l.params.null l.cells l.value l.counts (l.params.hash_of k) k (ap (λ (o : Outcome). o.said) (sym x) ∙ e))
