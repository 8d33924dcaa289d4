-- The checker says yes exactly when a table is sound: its test is 01's eight rules, both ways. Assumes nothing.
use Rattle.std.proofs.Common.{◌≡◌, ℕ, zero, suc, ◌+◌, ◌-◌, ◌%◌, ◌<◌, ◌≤◌, Bool, true, false, cond, not, ◌&&◌, eqb, leb, ◌≢◌, ◌↔◌, List, [], ◌∷◌, sym, refl, inl, inr, arith, eq-eqb, ne_eqb, eqb-true, le-leb, leb-true}
use Rattle.std.proofs.lemmas.Bool.{and_parts, and_from}
use native.Mathlib.Decide.{ℕ_discrete}
use borrow.Author.Tests.{eqb-false}
use lib.Dec.{eqb-suc-zero}
use Rattle.rules.specs.Sizes.{window, is_size}
use Rattle.rules.specs.Cells.{Params, Cells, Counts, shape}
use Rattle.rules.specs.Walk.{Stop, met, tail, broken, walk}
use Rattle.rules.specs.Sound.{Taken, home_of, Among, Chain, links, chain_of, OfHome, Clear, HashesKeys, Sound}
use Rattle.cells.specs.Layout.{lent, size_in, is_shaped}
use Rattle.cells.specs.declared.Table.{Table}
use Rattle.cells.proofs.Shapes.{passed}
use Rattle.sound.specs.State.{SoundTable}
use Rattle.sound.specs.Stops.{MetAt, Wraps, OwnMet}
use Rattle.sound.proofs.Positions.{size_wraps}
use Rattle.sound.proofs.Own.{own_met_differ, own_met_reached, sound_own_met}
use Rattle.checker.specs.Check.{all, of_home_test, chain_test, stops_at, met_test, empty_test, home_test, taken_test, cell_test, sound_test, sound, refused, check_rule}

-- ---- Booleans

not_is : (b : Bool) → not b ≡ true → b ≡ false
not_is true e = cc
not_is false e = refl

is_not : (a b : ℕ) → not (eqb a b) ≡ true → a ≢ b
is_not a b e = eqb-false a b (not_is (eqb a b) e)

not_eq : (a b : ℕ) → a ≢ b → not (eqb a b) ≡ true
not_eq a b n = rw (ne_eqb a b n)

all_at : (test : ℕ → Bool) (n : ℕ) → all test n ≡ true → (i : ℕ) → i < n → test i ≡ true
unfolding all
all_at test zero e i l = absurd (omega arith)
all_at test (suc n) e i l = go (λ m. all_at test n (and_parts (all test n) (test n) e).0 i m) (ℕ_discrete i n)
  where
    go : (i < n → test i ≡ true) → Dec (i ≡ n) → test i ≡ true
    go ih (yes q) = rw q (and_parts (all test n) (test n) e).1
    go ih (no f) = ih (omega arith)

all_from : (test : ℕ → Bool) (n : ℕ) → ((i : ℕ) → i < n → test i ≡ true) → all test n ≡ true
unfolding all
all_from test zero f = refl
all_from test (suc n) f = and_from _ _ (all_from test n (λ i l. f i (omega arith))) (f n (omega arith))

-- ---- a chain

-- it ends, and its cells are of home h
abbrev Proper : (S : ℕ) → Cells → ℕ → Chain → Type 0
Proper S cs h c = (c.left ≡ 0) × ((j : ℕ) → Among j c.cells → OfHome S cs h j)

abbrev ended : Chain
ended = record { cells = []; left = 0 }

abbrev longer : ℕ → Chain → Chain
longer j c = record { cells = j ∷ c.cells; left = c.left }

module _ (S : ℕ) (cs : Cells) (h : ℕ) where
  of_home : (j : ℕ) → of_home_test S h j (cs.hash j) ≡ true → OfHome S cs h j
  of_home j e =
      let a = and_parts (not (eqb (cs.hash j) 0) && eqb (cs.hash j % S) h) (not (eqb j h)) e in
      let b = and_parts (not (eqb (cs.hash j) 0)) (eqb (cs.hash j % S) h) a.0 in
      record { taken = is_not (cs.hash j) 0 b.0; home = eqb-true _ _ b.1; away = is_not j h a.1 }

  home_of_lem : (j : ℕ) → OfHome S cs h j → of_home_test S h j (cs.hash j) ≡ true
  home_of_lem j o = and_from _ _ (and_from _ _ (not_eq (cs.hash j) 0 o.taken) (eq-eqb _ _ o.home)) (not_eq j h o.away)

  proper_longer : (j : ℕ) (c : Chain) → OfHome S cs h j → Proper S cs h c → Proper S cs h (longer j c)
  proper_longer j c o p = (p.0, at)
    where
      at : (x : ℕ) → Among x (j ∷ c.cells) → OfHome S cs h x
      at x (inl q) = rw q o
      at x (inr q) = p.1 x q

  -- a chain that passes is proper
  chain_passes : (n i d : ℕ) → chain_test S cs h n i d ≡ true → Proper S cs h (links S cs n i d)
  unfolding chain_test links
  chain_passes zero i d e = (eqb-true d 0 e, λ j m. absurd m)
  chain_passes (suc n) i d e =
      go ((i + d) % S) (links S cs n ((i + d) % S) (cs.second ((i + d) % S))) (chain_test S cs h n ((i + d) % S) (cs.second ((i + d) % S)))
      (λ t. chain_passes n ((i + d) % S) (cs.second ((i + d) % S)) t) (eqb d 0) e
    where
      go : (j : ℕ) (c : Chain) (t : Bool) → (t ≡ true → Proper S cs h c) → (b : Bool) → cond b true (of_home_test S h j (cs.hash j) && t) ≡ true → Proper S cs h (cond b ended (longer j c))
      go j c t ih true e = (refl, λ x m. absurd m)
      go j c t ih false e = let a = and_parts (of_home_test S h j (cs.hash j)) t e in proper_longer j c (of_home j a.0) (ih a.1)

  -- and a proper one passes
  passes_chain : (n i d : ℕ) → Proper S cs h (links S cs n i d) → chain_test S cs h n i d ≡ true
  unfolding chain_test links
  passes_chain zero i d p = eq-eqb d 0 p.0
  passes_chain (suc n) i d p =
      go ((i + d) % S) (links S cs n ((i + d) % S) (cs.second ((i + d) % S))) (chain_test S cs h n ((i + d) % S) (cs.second ((i + d) % S)))
      (λ q. passes_chain n ((i + d) % S) (cs.second ((i + d) % S)) q) (eqb d 0) p
    where
      go : (j : ℕ) (c : Chain) (t : Bool) → (Proper S cs h c → t ≡ true) → (b : Bool) → Proper S cs h (cond b ended (longer j c)) → cond b true (of_home_test S h j (cs.hash j) && t) ≡ true
      go j c t ih true p = refl
      go j c t ih false p = and_from _ _ (home_of_lem j (p.1 j (inl refl))) (ih (p.0, λ x m. p.1 x (inr m)))

-- ---- a cell's own walk

met_at : (S i : ℕ) (s : Stop) → stops_at S i s ≡ true → MetAt S s i
met_at S i (met q) e = record { position = q; stop = refl; cell = eqb-true _ _ e }
met_at S i (tail q) e = cc
met_at S i broken e = cc

at_met : (S i : ℕ) (s : Stop) → MetAt S s i → stops_at S i s ≡ true
at_met S i s m = rw m.stop (eq-eqb _ _ m.cell)

-- ---- a cell

either : (a b : Bool) (x : Bool) → x ≡ true → cond x a b ≡ true → a ≡ true
either a b x e t = rw e at t

other : (a b : Bool) (x : Bool) → x ≡ false → cond x a b ≡ true → b ≡ true
other a b x e t = rw e at t

module _ (p : Params) (cs : Cells) (value : ℕ → ℕ) (i : ℕ) (t : cell_test p cs value i ≡ true) where
  parts : (((cs.first i ≤ window p.S) × (cs.second i ≤ window p.S)) × (chain_test p.S cs i (p.S - 1) i (cs.first i) ≡ true))
      × (cond (eqb (cs.hash i) 0) (empty_test p.null cs value i) (taken_test p cs i) ≡ true)
  unfolding cell_test
  parts =
      let a = and_parts ((leb (cs.first i) (window p.S) && leb (cs.second i) (window p.S)) && chain_test p.S cs i (p.S - 1) i (cs.first i)) _ t in
      let b = and_parts (leb (cs.first i) (window p.S) && leb (cs.second i) (window p.S)) _ a.0 in
      let c = and_parts (leb (cs.first i) (window p.S)) _ b.0 in
      (((leb-true _ _ c.0, leb-true _ _ c.1), b.1), a.1)

  is_clear : cs.hash i ≡ 0 → Clear p.null cs value i
  unfolding empty_test
  is_clear z =
      let e = either (empty_test p.null cs value i) (taken_test p cs i) (eqb (cs.hash i) 0) (eq-eqb _ _ z) parts.1 in
      let a = and_parts ((eqb (cs.key i) 0 && eqb (value i) p.null) && eqb (cs.first i) 0) _ e in
      let b = and_parts (eqb (cs.key i) 0 && eqb (value i) p.null) _ a.0 in
      let c = and_parts (eqb (cs.key i) 0) _ b.0 in
      record { no_key = eqb-true _ _ c.0; no_value = eqb-true _ _ c.1; no_first = eqb-true _ _ b.1; no_second = eqb-true _ _ a.1 }

  module _ (y : Taken cs i) where
    taken_parts : ((cs.hash i ≡ p.hash_of (cs.key i)) × (home_test p.S i (cs.hash i) (cs.second i) ≡ true)) × (met_test p.S cs i ≡ true)
    unfolding taken_test
    taken_parts =
        let e = other (empty_test p.null cs value i) (taken_test p cs i) (eqb (cs.hash i) 0) (ne_eqb _ _ y) parts.1 in
        let a = and_parts (eqb (cs.hash i) (p.hash_of (cs.key i)) && home_test p.S i (cs.hash i) (cs.second i)) _ e in
        let b = and_parts (eqb (cs.hash i) (p.hash_of (cs.key i))) _ a.0 in
        ((eqb-true _ _ b.0, b.1), a.1)

    no_second : i ≡ home_of p.S cs i → cs.second i ≡ 0
    no_second e = eqb-true _ _ (either (eqb (cs.second i) 0) true (eqb (cs.hash i % p.S) i) (eq-eqb _ _ (sym e)) taken_parts.0.1)

    met_there : MetAt p.S (walk p.S cs (cs.hash i) (cs.key i)).stop i
    unfolding met_test
    met_there = met_at p.S i (walk p.S cs (cs.hash i) (cs.key i)).stop taken_parts.1

module _ (p : Params) (cs : Cells) (value : ℕ → ℕ) (c : Counts) (z : Wraps p.S) where
  -- a table that passes the test is sound
  test_sound : sound_test p cs value c ≡ true → Sound p cs value c
  unfolding sound_test
  test_sound t =
      let a = and_parts (all (cell_test p cs value) p.S) _ t in
      let at = all_at (cell_test p cs value) p.S a.0 in
      let hashes : HashesKeys p cs = λ i l y. (taken_parts p cs value i (at i l) y).0.0 in
      let chains : (h : ℕ) → h < p.S → Proper p.S cs h (chain_of p.S cs h) = λ h l. chain_passes p.S cs h (p.S - 1) h (cs.first h) (parts p cs value h (at h l)).0.1 in
      let own : OwnMet p.S cs = λ i l y. met_there p cs value i (at i l) y in
      record {
        empty_clear = λ i l e. is_clear p cs value i (at i l) e;
        hashes_keys = hashes;
        keys_differ = own_met_differ p cs z own hashes;
        deltas_near = λ i l. (parts p cs value i (at i l)).0.0;
        chains_sound = λ h l. record { ends = (chains h l).0; holds = (chains h l).1 };
        taken_reached = own_met_reached p cs z own (λ h l. record { ends = (chains h l).0; holds = (chains h l).1 });
        homes_secondless = λ i l y e. no_second p cs value i (at i l) y e;
        live_counts = eqb-true _ _ a.1;
      }

  -- every cell of a sound table passes
  module _ (s : Sound p cs value c) (i : ℕ) (l : i < p.S) where
    empty_passes : cs.hash i ≡ 0 → empty_test p.null cs value i ≡ true
    unfolding empty_test
    empty_passes e =
        let k = s.empty_clear i l e in
        and_from _ _ (and_from _ _ (and_from _ _ (eq-eqb _ _ k.no_key) (eq-eqb _ _ k.no_value)) (eq-eqb _ _ k.no_first)) (eq-eqb _ _ k.no_second)

    home_passes : Taken cs i → home_test p.S i (cs.hash i) (cs.second i) ≡ true
    home_passes y = go (eqb (cs.hash i % p.S) i) refl
      where
        go : (b : Bool) → eqb (cs.hash i % p.S) i ≡ b → cond b (eqb (cs.second i) 0) true ≡ true
        go true e = eq-eqb _ _ (s.homes_secondless i l y (sym (eqb-true _ _ e)))
        go false e = refl

    taken_passes : Taken cs i → taken_test p cs i ≡ true
    unfolding taken_test met_test
    taken_passes y =
        and_from _ _ (and_from _ _ (eq-eqb _ _ (s.hashes_keys i l y)) (home_passes y))
        (at_met p.S i (walk p.S cs (cs.hash i) (cs.key i)).stop (sound_own_met p cs value c s z i l y))

    cell_passes : cell_test p cs value i ≡ true
    unfolding cell_test
    cell_passes =
        let d = s.deltas_near i l in
        let h = s.chains_sound i l in
        and_from _ _ (and_from _ _ (and_from _ _ (le-leb _ _ d.0) (le-leb _ _ d.1)) (passes_chain p.S cs i (p.S - 1) i (cs.first i) (h.ends, h.holds)))
        (go (eqb (cs.hash i) 0) refl)
      where
        go : (b : Bool) → eqb (cs.hash i) 0 ≡ b → cond b (empty_test p.null cs value i) (taken_test p cs i) ≡ true
        go true e = empty_passes (eqb-true _ _ e)
        go false e = taken_passes (eqb-false _ _ e)

  sound_test_lem : Sound p cs value c → sound_test p cs value c ≡ true
  unfolding sound_test
  sound_test_lem s = and_from _ _ (all_from (cell_test p cs value) p.S (λ i l. cell_passes s i l)) (eq-eqb _ _ s.live_counts)

  -- the checker's test passes exactly for sound tables
  pub test_is_sound : (sound_test p cs value c ≡ true) ↔ Sound p cs value c
  test_is_sound = (test_sound, sound_test_lem)

-- ---- the call, on any two slices and record

module _ (ws ds : List ℕ) (t : Table) where
  shaped_size : shape (lent ws ds t) ≡ 0 → is_size (size_in ds) ≡ true
  shaped_size e = go (is_shaped ws ds && leb t.live (size_in ds)) refl e
    where
      go : (b : Bool) → is_shaped ws ds && leb t.live (size_in ds) ≡ b → cond {A = ℕ} b 0 1 ≡ 0 → is_size (size_in ds) ≡ true
      go true q e = (passed ws ds t.live q).0.size
      go false q e = absurd (omega arith)

  -- the checker says yes exactly when 1 does not refuse the table and it is sound by the eight rules
  pub check_yes_exactly : (check_rule (lent ws ds t) ≡ sound) ↔ ((shape (lent ws ds t) ≡ 0) × SoundTable (lent ws ds t))
  unfolding check_rule
  check_yes_exactly = (
    λ e. yes (shape (lent ws ds t)) refl (sound_test (lent ws ds t).params (lent ws ds t).cells (lent ws ds t).value (lent ws ds t).counts) refl e,
    λ s. rw (s.0, (test_is_sound (lent ws ds t).params (lent ws ds t).cells (lent ws ds t).value (lent ws ds t).counts (size_wraps (size_in ds) (shaped_size s.0))).1 s.1),
  )
    where
      yes : (n : ℕ) → shape (lent ws ds t) ≡ n → (b : Bool) → sound_test (lent ws ds t).params (lent ws ds t).cells (lent ws ds t).value (lent ws ds t).counts ≡ b
          → cond (eqb n 0) (cond b sound (refused 9)) (refused 1) ≡ sound → (shape (lent ws ds t) ≡ 0) × SoundTable (lent ws ds t)
      yes zero e true q r =
          (e, (test_is_sound (lent ws ds t).params (lent ws ds t).cells (lent ws ds t).value (lent ws ds t).counts (size_wraps (size_in ds) (shaped_size e))).0 q)
      yes zero e false q r = cc
      yes (suc n) e b q r = let s : refused 1 ≡ sound = rw (eqb-suc-zero n) at r in cc
