-- The calls on a table of fixed size, as functions of what is lent. Checks run 1, 3, 2, then the walk.
use Rattle.std.specs.Prelude.{cond, List, [], ◌∷◌, ◌++◌, ℕ, ◌+◌, ◌%◌, eqb, length}
use Rattle.rules.specs.Sizes.{window}
use Rattle.rules.specs.Cells.{Cells, Counts, Lent, shape, offered, zero_hash}
use Rattle.rules.specs.Walk.{Stop, met, tail, broken, walk, on, Hit, free, none, probe_from}
use Rattle.rules.specs.Answers.{Said, found, absent, new, replaced, revived, removed, refused, Link, unlinked, as_first, as_second, store, fill, Answer, Outcome, leave, unless, unless_found, settle}

-- ---- find

-- met: the value, or Absent where it is null; at the tail: Absent; broken: 5
abbrev pub find_at : (S null : ℕ) → (ℕ → ℕ) → Stop → Said
find_at S null value (met q) = cond (eqb (value (q % S)) null) absent (found (value (q % S)))
find_at S null value (tail q) = absent
find_at S null value broken = refused 5 []

unfoldable pub find_in : (S null : ℕ) → Cells → (ℕ → ℕ) → (h k : ℕ) → Answer
find_in S null cs value h k =
    let w = walk S cs h k in
    record { said = find_at S null value w.stop; looked = length w.seen }

unfoldable pub find : Lent → ℕ → Answer
find l k =
    let p = l.params in
    let h = p.hash_of k in
    unless_found (shape l) (unless_found (zero_hash h) (find_in p.S p.null l.cells l.value h k))

-- ---- remove

-- met with a value: Removed, the value set to null and nothing else; otherwise as find
abbrev pub remove_at : (S null : ℕ) → (ℕ → ℕ) → Counts → ℕ → Stop → Outcome
remove_at S null value c looked (met q) =
    cond (eqb (value (q % S)) null) (leave absent looked c) (settle S c looked (removed (value (q % S))) (store (q % S) null))
remove_at S null value c looked (tail q) = leave absent looked c
remove_at S null value c looked broken = leave (refused 5 []) looked c

unfoldable pub remove_in : (S null : ℕ) → Cells → (ℕ → ℕ) → Counts → (h k : ℕ) → Outcome
remove_in S null cs value c h k =
    let w = walk S cs h k in
    remove_at S null value c (length w.seen) w.stop

unfoldable pub remove : Lent → ℕ → Outcome
remove l k =
    let p = l.params in
    let c = l.counts in
    let h = p.hash_of k in
    unless (shape l) c (unless (zero_hash h) c (remove_in p.S p.null l.cells l.value c h k))

-- ---- insert

-- the positions that a probe looks at, if the walk stops at a tail
abbrev pub probed : (S : ℕ) → Cells → Stop → List ℕ
probed S cs (met q) = []
probed S cs (tail q) = (probe_from S cs q).seen
probed S cs broken = []

-- the positions that an insert past its checks looks at: an empty home alone, else the walk's and the probe's
unfoldable pub insert_seen : (S : ℕ) → Cells → (h k : ℕ) → List ℕ
insert_seen S cs h k =
    let w = walk S cs h k in
    cond (eqb (cs.hash (h % S)) 0) (h ∷ []) (w.seen ++ probed S cs w.stop)

-- met at cell i: a value is replaced, a removed cell is revived
unfoldable pub insert_met : (S null : ℕ) → Counts → (looked i old v : ℕ) → Outcome
insert_met S null c looked i old v =
    cond (eqb old null) (settle S c looked revived (store i v)) (settle S c looked (replaced old) (store i v))

-- the distance goes into the home's first delta if no link was followed (the walk looked at one cell), else into the tail's second
abbrev pub link_from : (S n h q d : ℕ) → Link
link_from S n h q d = cond (eqb n 1) (as_first (h % S) d) (as_second (q % S) d)

-- not met, at the tail q of a walk that looked at n cells: the first empty cell of the window is filled, or Full carries tail + P + 1
abbrev pub insert_hit : (S : ℕ) → Counts → (looked n h k v q : ℕ) → Hit → Outcome
insert_hit S c looked n h k v q (free d) = settle S c looked new (fill (on q d % S) h k v (link_from S n h q d))
insert_hit S c looked n h k v q none = leave (refused 4 (on q (window S + 1) ∷ [])) looked c

abbrev pub insert_at : (S null : ℕ) → Cells → (ℕ → ℕ) → Counts → (looked n h k v : ℕ) → Stop → Outcome
insert_at S null cs value c looked n h k v (met q) = insert_met S null c looked (q % S) (value (q % S)) v
insert_at S null cs value c looked n h k v (tail q) = insert_hit S c looked n h k v q (probe_from S cs q).hit
insert_at S null cs value c looked n h k v broken = leave (refused 5 []) looked c

-- an insert by a stored hash, below checks 2 and 3: an empty home is used at once, else the walk decides
unfoldable pub insert_stored : (S null : ℕ) → Cells → (ℕ → ℕ) → Counts → (h k v : ℕ) → Outcome
insert_stored S null cs value c h k v =
    let w = walk S cs h k in
    let looked = length (insert_seen S cs h k) in
    cond (eqb (cs.hash (h % S)) 0)
    (settle S c looked new (fill (h % S) h k v unlinked))
    (insert_at S null cs value c looked (length w.seen) h k v w.stop)

unfoldable pub insert : Lent → (k v : ℕ) → Outcome
insert l k v =
    let p = l.params in
    let c = l.counts in
    let h = p.hash_of k in
    unless (shape l) c
    (unless (offered p.null v) c
    (unless (zero_hash h) c (insert_stored p.S p.null l.cells l.value c h k v)))
