-- A call reads the S cells of its table alone: tables that are alike below S answer alike. Assumes nothing.
use mathlib.Core.Bool.{cond, ◌&&◌}
use mathlib.Core.List.{List, [], ◌∷◌, ◌++◌}
use mathlib.Core.Path.{◌≡◌, refl, ap, ◌∙◌}
use Prim.Native.Nat.{ℕ, zero, suc, ◌+◌, ◌-◌, ◌%◌, ◌≤◌, ◌<◌}
use native.Mathlib.Nat.{mod-lt}
use lib.Dec.{eqb}
use lib.ListN.{length}
use Rattle.rules.specs.Sizes.{window}
use Rattle.rules.specs.Cells.{Cells, Counts, holds}
use Rattle.rules.specs.Walk.{on, Stop, met, tail, broken, Walk, stopped, looking, follow, walk, free, Probe, probe, probe_from}
use Rattle.rules.specs.Answers.{Said, absent, found, new, removed, unlinked, store, fill, Outcome, leave, settle}
use Rattle.rules.specs.Calls.{find_at, find_in, remove_at, remove_in, probed, insert_seen, insert_met, insert_hit, insert_at, insert_stored}

-- the same up to cell S
pub record Alike (S : ℕ) (cs cs' : Cells) (v v' : ℕ → ℕ) : Type 0 where
  pub hash : (i : ℕ) → i < S → cs.hash i ≡ cs'.hash i
  pub key : (i : ℕ) → i < S → cs.key i ≡ cs'.key i
  pub first : (i : ℕ) → i < S → cs.first i ≡ cs'.first i
  pub second : (i : ℕ) → i < S → cs.second i ≡ cs'.second i
  pub value : (i : ℕ) → i < S → v i ≡ v' i

module _ (S : ℕ) (cs cs' : Cells) (v v' : ℕ → ℕ) (some : 1 ≤ S) (a : Alike S cs cs' v v') where
  below : (x : ℕ) → x % S < S
  below x = mod-lt x {m = S} some

  module _ (h k : ℕ) where
    holds_same : (x : ℕ) → holds cs (x % S) h k ≡ holds cs' (x % S) h k
    holds_same x = λ t. eqb (a.hash (x % S) (below x) t) h && eqb (a.key (x % S) (below x) t) k

    follow_same : (n p d : ℕ) → follow S cs h k n p d ≡ follow S cs' h k n p d
    unfolding follow
    follow_same zero p d = refl
    follow_same (suc n) p d =
        let q = on p d in
        let rest : follow S cs h k n q (cs.second (q % S)) ≡ follow S cs' h k n q (cs'.second (q % S)) = follow_same n q (cs.second (q % S)) ∙ ap (λ (e : ℕ). follow S cs' h k n q e) (a.second (q % S) (below q)) in
        λ t. cond {A = Walk} (eqb d 0) (stopped (tail p)) (looking q (cond {A = Walk} (holds_same q t) (stopped (met q)) (rest t)))

    -- so does a walk
    pub walk_same : walk S cs h k ≡ walk S cs' h k
    unfolding walk
    walk_same =
        let rest : follow S cs h k (S - 1) h (cs.first (h % S)) ≡ follow S cs' h k (S - 1) h (cs'.first (h % S)) = follow_same (S - 1) h (cs.first (h % S)) ∙ ap (λ (e : ℕ). follow S cs' h k (S - 1) h e) (a.first (h % S) (below h)) in
        λ t. looking h (cond {A = Walk} (holds_same h t) (stopped (met h)) (rest t))

    module _ (null : ℕ) where
      find_at_lem : (s : Stop) → find_at S null v s ≡ find_at S null v' s
      find_at_lem (met q) = ap (λ (x : ℕ). cond {A = Said} (eqb x null) absent (found x)) (a.value (q % S) (below q))
      find_at_lem (tail q) = refl
      find_at_lem broken = refl

      pub find_same : find_in S null cs v h k ≡ find_in S null cs' v' h k
      unfolding find_in
      find_same =
          ap (λ (w : Walk). record { said = find_at S null v w.stop; looked = length w.seen }) walk_same
          ∙ ap (λ (s : Said). record { said = s; looked = length (walk S cs' h k).seen }) (find_at_lem (walk S cs' h k).stop)

      remove_at_lem : (c : Counts) (n : ℕ) (s : Stop) → remove_at S null v c n s ≡ remove_at S null v' c n s
      remove_at_lem c n (met q) =
          ap (λ (x : ℕ). cond {A = Outcome} (eqb x null) (leave absent n c) (settle S c n (removed x) (store (q % S) null))) (a.value (q % S) (below q))
      remove_at_lem c n (tail q) = refl
      remove_at_lem c n broken = refl

      pub remove_same : (c : Counts) → remove_in S null cs v c h k ≡ remove_in S null cs' v' c h k
      unfolding remove_in
      remove_same c =
          ap (λ (w : Walk). remove_at S null v c (length w.seen) w.stop) walk_same ∙ remove_at_lem c (length (walk S cs' h k).seen) (walk S cs' h k).stop

      -- ---- insert: the probe reads cells of the table too

      probe_same : (p n d : ℕ) → probe S cs.hash p n d ≡ probe S cs'.hash p n d
      unfolding probe
      probe_same p zero d = refl
      probe_same p (suc n) d =
          let q = on p d in
          let rest = probe_same p n (d + 1) in
          λ t. cond {A = Probe} (eqb (a.hash (q % S) (below q) t) 0) (record { seen = q ∷ []; hit = free d }) (record { seen = q ∷ (rest t).seen; hit = (rest t).hit })

      window_same : (p : ℕ) → probe_from S cs p ≡ probe_from S cs' p
      window_same p = probe_same p (window S) 1

      probed_same : (s : Stop) → probed S cs s ≡ probed S cs' s
      probed_same (met q) = refl
      probed_same (tail q) = ap (λ (x : Probe). x.seen) (window_same q)
      probed_same broken = refl

      seen_same : insert_seen S cs h k ≡ insert_seen S cs' h k
      unfolding insert_seen
      seen_same =
          (λ t. cond {A = List ℕ} (eqb (a.hash (h % S) (below h) t) 0) (h ∷ []) ((walk_same t).seen ++ probed S cs (walk_same t).stop))
          ∙ (λ t. cond {A = List ℕ} (eqb (cs'.hash (h % S)) 0) (h ∷ []) ((walk S cs' h k).seen ++ probed_same (walk S cs' h k).stop t))

      module _ (c : Counts) (x : ℕ) where
        insert_at_lem : (looked n : ℕ) (s : Stop) → insert_at S null cs v c looked n h k x s ≡ insert_at S null cs' v' c looked n h k x s
        insert_at_lem looked n (met q) = ap (λ (old : ℕ). insert_met S null c looked (q % S) old x) (a.value (q % S) (below q))
        insert_at_lem looked n (tail q) = ap (λ (y : Probe). insert_hit S c looked n h k x q y.hit) (window_same q)
        insert_at_lem looked n broken = refl

        pub insert_same : insert_stored S null cs v c h k x ≡ insert_stored S null cs' v' c h k x
        unfolding insert_stored
        insert_same =
            (λ t. cond {A = Outcome} (eqb (a.hash (h % S) (below h) t) 0)
            (settle S c (length (seen_same t)) new (fill (h % S) h k x unlinked))
            (insert_at S null cs v c (length (seen_same t)) (length (walk_same t).seen) h k x (walk_same t).stop))
            ∙ ap (λ (o : Outcome). cond {A = Outcome} (eqb (cs'.hash (h % S)) 0) (settle S c (length (insert_seen S cs' h k)) new (fill (h % S) h k x unlinked)) o)
            (insert_at_lem (length (insert_seen S cs' h k)) (length (walk S cs' h k).seen) (walk S cs' h k).stop)
