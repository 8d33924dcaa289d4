-- The cursor, setting, entries and the plain move read the S cells of their table alone: tables that are alike below S are answered
-- alike. Find, insert and remove: crates/halves/proofs/Alike.antt. Assumes nothing.
use mathlib.Core.Bool.{Bool, true, false, cond, not, ◌&&◌, ◌||◌}
use mathlib.Core.List.{[]}
use mathlib.Core.Path.{◌≡◌, refl, ap, ◌∙◌}
use Prim.Native.Nat.{ℕ, zero, suc, ◌+◌, ◌-◌, ◌%◌, ◌≤◌, ◌<◌}
use native.Mathlib.Nat.{mod-lt}
use native.Mathlib.Omega.{arith}
use borrow.Author.Tests.{ltb-true}
use lib.Dec.{eqb, leb, ltb}
use Rattle.rules.specs.Cells.{Params, Cells, Counts, Lent, is_live, offered, zero_hash}
use Rattle.rules.specs.Walk.{Stop, met, tail, broken, Walk, walk}
use Rattle.rules.specs.Answers.{absent, found, replaced, removed, store, Answer, Outcome, leave, unless, unless_found, settle}
use Rattle.rules.specs.Calls.{find, insert_stored}
use Rattle.rules.specs.Cursor.{Next, at, first_from, next, Step, step_to, step_in, step_unless, step, set_at, set_value}
use Rattle.rules.specs.Entries.{Place, occupied, vacant, Entry, Making, made, unless_made, make_at, make_in, entry_of, Action, reading, keeping, replacing, removing, inserting, below, offers, is_found, outdated, stale, uncounted, used_at, used_vacant, used, use_entry}
use Rattle.rules.specs.Moves.{Held, held_after, Moved, stop_with, cell_moved, move_cells, totalled, move_all, move_end, unless_move, move}
use Rattle.halves.proofs.Alike.{Alike, walk_same, find_same, insert_same}

abbrev pub lent_as : Bool → Params → Counts → Cells → (ℕ → ℕ) → Lent
lent_as b p c cs v = record { shaped = b; params = p; cells = cs; value = v; counts = c }

-- it reads the S cells alone
abbrev pub Local : {A : Type 0} → (Lent → A) → Type 0
Local f = (b : Bool) (p : Params) (c : Counts) (cs cs' : Cells) (v v' : ℕ → ℕ) → 1 ≤ p.S → Alike p.S cs cs' v v' → f (lent_as b p c cs v) ≡ f (lent_as b p c cs' v')

-- ---- cells below S

module _ (p : Params) (cs cs' : Cells) (v v' : ℕ → ℕ) (a : Alike p.S cs cs' v v') where
  live_same : (i : ℕ) → i < p.S → is_live p cs v i ≡ is_live p cs' v' i
  live_same i l = λ t. not (eqb (a.hash i l t) 0) && not (eqb (a.value i l t) p.null)

  -- a step
  search_same : (position n i : ℕ) → n ≤ p.S - i
      → step_to p.S cs v position (first_from (is_live p cs v) n i) ≡ step_to p.S cs' v' position (first_from (is_live p cs' v') n i)
  unfolding first_from
  search_same position zero i u = refl
  search_same position (suc n) i u =
      let l : i < p.S = omega arith in
      (λ t. step_to p.S cs v position (cond {A = Next} (live_same i l t) (at i) (first_from (is_live p cs v) n (i + 1))))
      ∙ go (is_live p cs' v' i) l (search_same position n (i + 1) (omega arith))
    where
      go : (b : Bool) → i < p.S
          → step_to p.S cs v position (first_from (is_live p cs v) n (i + 1)) ≡ step_to p.S cs' v' position (first_from (is_live p cs' v') n (i + 1))
          → step_to p.S cs v position (cond {A = Next} b (at i) (first_from (is_live p cs v) n (i + 1)))
          ≡ step_to p.S cs' v' position (cond {A = Next} b (at i) (first_from (is_live p cs' v') n (i + 1)))
      go true l r = λ t. record { said = next i (a.key i l t) (a.value i l t); position = i + 1 }
      go false l r = r

  -- a setting
  set_same : (c : Counts) (i x : ℕ) → i < p.S → set_at p cs v c i x ≡ set_at p cs' v' c i x
  unfolding set_at
  set_same c i x l =
      λ t. cond {A = Outcome} (live_same i l t) (record { said = replaced (a.value i l t); looked = 0; counts = c; change = store i x }) (leave absent 0 c)

  -- the making of an entry
  make_at_lem : 1 ≤ p.S → (h k : ℕ) (s : Stop) → make_at p.S p.null v h k s ≡ make_at p.S p.null v' h k s
  make_at_lem some h k (met q) =
      ap (λ (x : ℕ). made (record { key = k; hash = h; place = cond {A = Place} (eqb x p.null) vacant (occupied (q % p.S)) })) (a.value (q % p.S) (mod-lt q {m = p.S} some))
  make_at_lem some h k (tail q) = refl
  make_at_lem some h k broken = refl

  -- so many cells of a move
  cells_same : (null T n i : ℕ) → n ≤ p.S - i → (to : Held) (c : Counts)
      → move_cells null (record { cells = cs; value = v }) T n i to c ≡ move_cells null (record { cells = cs'; value = v' }) T n i to c
  unfolding move_cells
  cells_same null T zero i u to c = refl
  cells_same null T (suc n) i u to c =
      let l : i < p.S = omega arith in
      let rest = cells_same null T n (i + 1) (omega arith) in
      λ t. let o = insert_stored T null to.cells to.value c (a.hash i l t) (a.key i l t) (a.value i l t) in
      cond {A = Moved} (eqb (a.value i l t) null) (rest to c t)
      (cond {A = Moved} (eqb (a.hash i l t) 0) (stop_with 5 []) (cell_moved o.said o.change (rest (held_after o.change to) o.counts t)))

-- ---- the calls

pub find_local : (k : ℕ) → Local (λ l. find l k)
unfolding find
find_local k b p c cs cs' v v' some a =
    let h = p.hash_of k in
    ap (λ (x : Answer). unless_found (cond {A = ℕ} (b && leb c.live p.S) 0 1) (unless_found (zero_hash h) x)) (find_same p.S cs cs' v v' some a h k p.null)

pub step_local : (position : ℕ) → Local (λ l. step l position)
unfolding step step_in
step_local position b p c cs cs' v v' some a =
    ap (λ (x : Step). step_unless (cond {A = ℕ} (b && leb c.live p.S) 0 1) position x) (search_same p cs cs' v v' a position (p.S - position) position (omega arith))

pub set_local : (i x : ℕ) → Local (λ l. set_value l i x)
unfolding set_value
set_local i x b p c cs cs' v v' some a =
    ap (λ (o : Outcome). unless (cond {A = ℕ} (b && leb c.live p.S) 0 1) c o) (go (ltb i p.S) refl)
  where
    go : (y : Bool) → ltb i p.S ≡ y
        → unless (cond {A = ℕ} y 0 1) c (unless (offered p.null x) c (set_at p cs v c i x))
        ≡ unless (cond {A = ℕ} y 0 1) c (unless (offered p.null x) c (set_at p cs' v' c i x))
    go true e = ap (λ (o : Outcome). unless (offered p.null x) c o) (set_same p cs cs' v v' a c i x (ltb-true _ _ e))
    go false e = refl

pub entry_local : (k : ℕ) → Local (λ l. entry_of l k)
unfolding entry_of make_in
entry_local k b p c cs cs' v v' some a =
    let h = p.hash_of k in
    ap (λ (m : Making). unless_made (cond {A = ℕ} (b && leb c.live p.S) 0 1) (unless_made (zero_hash h) m))
    (ap (λ (w : Walk). make_at p.S p.null v h k w.stop) (walk_same p.S cs cs' v v' some a h k)
    ∙ make_at_lem p cs cs' v v' a some h k (walk p.S cs' h k).stop)

-- a plain move, from the table into any destination
pub move_local : (shaped : Bool) (T : ℕ) (clear : Held) → Local (λ l. move l shaped T clear)
unfolding move move_all
move_local shaped T clear b p c cs cs' v v' some a =
    ap (λ (m : Moved). unless_move (cond {A = ℕ} shaped (cond {A = ℕ} (b && leb c.live p.S) 0 1) 1) (move_end (totalled c.live m m.ended) (totalled c.live m m.ended).ended))
    (cells_same p cs cs' v v' a p.null T p.S 0 (omega arith) clear (record { live = 0 }))

-- ---- an entry used

module _ (b : Bool) (p : Params) (c : Counts) (cs cs' : Cells) (v v' : ℕ → ℕ) (some : 1 ≤ p.S) (a : Alike p.S cs cs' v v') (e : Entry) where
  abbrev l : Lent
  l = lent_as b p c cs v

  abbrev l' : Lent
  l' = lent_as b p c cs' v'

  vacant_same : (x : Action) → used_vacant l e x ≡ used_vacant l' e x
  vacant_same (inserting y) = ap uncounted (insert_same p.S cs cs' v v' some a e.hash e.key p.null c y)
  vacant_same reading = refl
  vacant_same (keeping y) = refl
  vacant_same (replacing y) = refl
  vacant_same removing = refl

  at_same : (x : Action) (i : ℕ) → i < p.S → used_at l i (v i) x ≡ used_at l' i (v' i) x
  at_same reading i u = λ t. leave (found (a.value i u t)) 0 c
  at_same (keeping y) i u = λ t. leave (found (a.value i u t)) 0 c
  at_same (replacing y) i u = λ t. settle p.S c 0 (replaced (a.value i u t)) (store i y)
  at_same removing i u = λ t. settle p.S c 0 (removed (a.value i u t)) (store i p.null)
  at_same (inserting y) i u = refl

  outdated_at : (i : ℕ) → i < p.S → outdated l e (occupied i) ≡ outdated l' e (occupied i)
  outdated_at i u =
      λ t. not ((eqb (a.hash i u t) e.hash && eqb (a.key i u t) e.key) && live_same p cs cs' v v' a i u t)

  -- checks 3, 2 and 7 and the use, behind check 1
  abbrev Behind : Action → (old : Bool) → Outcome → Outcome
  Behind x old o =
      unless (offers p.null x) c (unless (zero_hash (p.hash_of e.key)) c (unless (cond {A = ℕ} (old || not (eqb e.hash (p.hash_of e.key))) 7 0) c o))

  placed_same : (x : Action) (y : Place)
      → unless (cond {A = ℕ} (b && leb c.live p.S && below p.S y) 0 1) c (Behind x (outdated l e y) (used l e y x))
      ≡ unless (cond {A = ℕ} (b && leb c.live p.S && below p.S y) 0 1) c (Behind x (outdated l' e y) (used l' e y x))
  placed_same x vacant =
      let f = find_local e.key b p c cs cs' v v' some a in
      let u = vacant_same x in
      λ t. unless (cond {A = ℕ} (b && leb c.live p.S && true) 0 1) c (Behind x (is_found (f t).said) (u t))
  placed_same x (occupied i) = go (b && leb c.live p.S) (ltb i p.S) refl
    where
      go : (z y : Bool) → ltb i p.S ≡ y
          → unless (cond {A = ℕ} (z && y) 0 1) c (Behind x (outdated l e (occupied i)) (used_at l i (v i) x))
          ≡ unless (cond {A = ℕ} (z && y) 0 1) c (Behind x (outdated l' e (occupied i)) (used_at l' i (v' i) x))
      go false y q = refl
      go true false q = refl
      go true true q =
          let u = ltb-true _ _ q in
          let d = outdated_at i u in
          let o = at_same x i u in
          λ t. Behind x (d t) (o t)

pub use_local : (e : Entry) (x : Action) → Local (λ l. use_entry l e x)
unfolding use_entry stale
use_local e x b p c cs cs' v v' some a = placed_same b p c cs cs' v v' some a e x e.place
