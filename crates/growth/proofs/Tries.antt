-- The tries of a round, one size after the other. Assumes nothing.
use mathlib.Core.Bool.{true}
use mathlib.Core.List.{List, [], ◌∷◌}
use mathlib.Core.Path.{◌≡◌, refl, sym, ap, subst, ◌∙◌}
use Prim.Native.Nat.{ℕ, zero, suc, ◌*◌, ◌^◌, ◌≤◌, ◌<◌}
use native.Mathlib.Nat.{mul_comm, pow-suc}
use native.Mathlib.Omega.{arith}
use borrow.Author.Tests.{le-leb}
use Rattle.std.specs.Prelude.{Result, Ok, Err}
use lib.ListN.{length}
use lib.Pow.{pow_mono}
use Rattle.rules.specs.Sizes.{least_log, is_size}
use Rattle.rules.specs.Cells.{Counts}
use Rattle.rules.specs.Moves.{Held, Became, stays, cleared, Ended, all, stop, Moved, move_all, move_end}
use Rattle.rules.specs.Growing.{Tries, tries, sizes}
use Rattle.steps.proofs.Sizes.{size_greatest}
use Rattle.cells.specs.Layout.{null, counts_of, fresh_words, fresh_deltas}
use Rattle.cells.specs.declared.insert.FullAt.{FullAt}
use Rattle.cells.specs.declared.insert.WalkError.{WalkError}
use Rattle.cells.specs.declared.insert.WalkError.TheVariants.{Full, Broken}
use Rattle.moving.specs.Slices.{held_in, clear_held, words_after_all, deltas_after_all}
use Rattle.moving.specs.Ends.{Into, into_by, end_of}
use Rattle.growthlaws.proofs.Sizes.{power_size}
use Rattle.growthlaws.proofs.Tries.{tries_above, tries_all, tries_full, tries_broken, sizes_enough, one_left}
use Rattle.growth.specs.Rounds.{Power, TriedOn, to, no_room, broken, tried_on}

-- ---- how a move ended, from what it left

module _ (cells : ℕ) (m : Moved) (ws ds w d : List ℕ) where
  pub into_all : (c : Counts) → record { ended = all c; words = w; deltas = d } ≡ into_by cells (move_end m m.ended) ws ds
      → (m.ended ≡ all c) × (w ≡ words_after_all m.fills (fresh_words cells)) × (d ≡ deltas_after_all m.fills (fresh_deltas cells))
  into_all c e = go m.ended refl e
    where
      go : (x : Ended) → m.ended ≡ x → record { ended = all c; words = w; deltas = d } ≡ into_by cells (move_end m x) ws ds
          → (m.ended ≡ all c) × (w ≡ words_after_all m.fills (fresh_words cells)) × (d ≡ deltas_after_all m.fills (fresh_deltas cells))
      go (all b) q e = (q ∙ sym (ap (λ (i : Into). i.ended) e), ap (λ (i : Into). i.words) e, ap (λ (i : Into). i.deltas) e)
      go (stop n l) q e = let f = ap (λ (i : Into). i.ended) e in cc

  pub into_stop : (n : ℕ) (l : List ℕ) → record { ended = stop n l; words = w; deltas = d } ≡ into_by cells (move_end m m.ended) ws ds
      → (m.ended ≡ stop n l) × (w ≡ fresh_words cells) × (d ≡ fresh_deltas cells)
  into_stop n l e = go m.ended refl e
    where
      go : (x : Ended) → m.ended ≡ x → record { ended = stop n l; words = w; deltas = d } ≡ into_by cells (move_end m x) ws ds
          → (m.ended ≡ stop n l) × (w ≡ fresh_words cells) × (d ≡ fresh_deltas cells)
      go (all b) q e = let f = ap (λ (i : Into). i.ended) e in cc
      go (stop n' l') q e = (q ∙ sym (ap (λ (i : Into). i.ended) e), ap (λ (i : Into). i.words) e, ap (λ (i : Into). i.deltas) e)

module _ (cells S : ℕ) (from : Held) (c : Counts) where
  abbrev pub move_to : ℕ → Moved
  move_to T = move_all null S from c T (clear_held cells)

  abbrev pub tries_from : (left T : ℕ) → Became → Tries
  tries_from left T b = tries cells null S from c (clear_held cells) left T b

-- where a size fits it is tried, whatever became of the spare half before
pub tries_fits : (C nul S : ℕ) (from : Held) (c : Counts) (clear : Held) (left T : ℕ) → T ≤ C → (a b : Became) → tries C nul S from c clear (suc left) T a ≡ tries C nul S from c clear (suc left) T b
unfolding tries
tries_fits C nul S from c clear left T l a b = rw (le-leb T C l)

-- ---- the loop

-- the sizes from T on are left to try, in a clear spare half
pub record Trying (cells S live : ℕ) (fws : List ℕ) (first T : ℕ) (ws₀ ds₀ ws ds : List ℕ) : Type 0 where
  pub words_long : length ws ≡ length ws₀
  pub deltas_long : length ds ≡ length ds₀
  pub left : ℕ
  pub power : Power T
  pub enough : cells < T * 2 ^ left
  pub words : ws ≡ fresh_words cells
  pub deltas : ds ≡ fresh_deltas cells
  pub same : (fds : List ℕ) → tries_from cells S (held_in fws fds) (counts_of live) sizes first (cleared []) ≡ tries_from cells S (held_in fws fds) (counts_of live) left T (cleared [])

-- a power of two doubled
pub power_twice : (n : ℕ) → Power n → Power (2 * n)
power_twice n p =
    record {
      log = suc p.log;
      is = ap (λ (x : ℕ). 2 * x) p.is ∙ sym (pow-suc 2 p.log ∙ mul_comm (2 ^ p.log) 2);
      least = omega (arith, p.least);
    }

pub power_least : (n : ℕ) → Power n → 2 ^ least_log ≤ n
power_least n p = let q : 2 ^ least_log ≤ 2 ^ p.log = pow_mono {i = least_log} {j = p.log} p.least in omega (arith, p.is)

-- a power of two that is at most an allowed size is an allowed size
pub fits : (cells n : ℕ) → is_size cells ≡ true → Power n → n ≤ cells → is_size n ≡ true
fits cells n s p l = rw p.is (power_size p.log p.least (omega (arith, size_greatest cells s, p.is)))

module _ (cells S live : ℕ) (fws : List ℕ) (first : ℕ) (ws₀ ds₀ : List ℕ) where
  -- at the first size
  pub trying : is_size cells ≡ true → Power first → ws₀ ≡ fresh_words cells → ds₀ ≡ fresh_deltas cells → Trying cells S live fws first first ws₀ ds₀ ws₀ ds₀
  trying s p a b =
      record {
        words_long = refl;
        deltas_long = refl;
        left = sizes;
        power = p;
        enough = sizes_enough cells first s (power_least first p);
        words = a;
        deltas = b;
        same = λ fds. refl;
      }

  module _ (T : ℕ) (ws ds : List ℕ) (t : Trying cells S live fws first T ws₀ ds₀ ws ds) (l : T ≤ cells) (w d : List ℕ) where
    -- sizes are left
    some : (n : ℕ) × (t.left ≡ suc n) × (cells < 2 * T * 2 ^ n)
    some = one_left cells T t.left l t.enough

    next : (fds : List ℕ)
        → tries_from cells S (held_in fws fds) (counts_of live) sizes first (cleared []) ≡ tries_from cells S (held_in fws fds) (counts_of live) (suc some.0) T (cleared [])
    next fds = t.same fds ∙ ap (λ (n : ℕ). tries_from cells S (held_in fws fds) (counts_of live) n T (cleared [])) some.1

    -- what a move into the spare half left
    abbrev Left : Result ℕ WalkError → List ℕ → Type 0
    Left r fds =
        record { ended = end_of r; words = w; deltas = d }
        ≡ into_by cells (move_end (move_to cells S (held_in fws fds) (counts_of live) T) (move_to cells S (held_in fws fds) (counts_of live) T).ended) ws ds

    -- all went over
    pub all_over : (r : Result ℕ WalkError) (total : ℕ) → r ≡ Ok total → ((fds : List ℕ) → Left r fds)
        → (fds ow od : List ℕ) → record { end = to T; words = w; deltas = d } ≡ tried_on cells (tries_from cells S (held_in fws fds) (counts_of live) sizes first (cleared [])) ow od
    all_over r total a e fds ow od =
        let m = move_to cells S (held_in fws fds) (counts_of live) T in
        let i = into_all cells m ws ds w d (counts_of total) (rw a at (e fds)) in
        let q = next fds ∙ tries_all cells null S (held_in fws fds) (counts_of live) (clear_held cells) some.0 T (cleared []) l (counts_of total) i.0 in
        (λ j. record { end = to T; words = i.1 j; deltas = i.2 j }) ∙ sym (ap (λ (x : Tries). tried_on cells x ow od) q)

    -- Broken
    pub broke : (r : Result ℕ WalkError) → r ≡ Err Broken → ((fds : List ℕ) → Left r fds)
        → (fds ow od : List ℕ) → record { end = broken; words = w; deltas = d } ≡ tried_on cells (tries_from cells S (held_in fws fds) (counts_of live) sizes first (cleared [])) ow od
    broke r a e fds ow od =
        let m = move_to cells S (held_in fws fds) (counts_of live) T in
        let i = into_stop cells m ws ds w d 5 [] (rw a at (e fds)) in
        let q = next fds ∙ tries_broken cells null S (held_in fws fds) (counts_of live) (clear_held cells) some.0 T (cleared []) l 5 [] (λ z. omega arith) i.0 in
        (λ j. record { end = broken; words = i.1 j; deltas = i.2 j }) ∙ sym (ap (λ (x : Tries). tried_on cells x ow od) q)

    -- Full: the next size
    pub again : (r : Result ℕ WalkError) (at : FullAt) → r ≡ Err (Full at) → ((fds : List ℕ) → Left r fds) → length w ≡ length ws → length d ≡ length ds → (T' : ℕ) → T' ≡ 2 * T → Trying cells S live fws first T' ws₀ ds₀ w d
    again r at f e lw ld T' a =
        let n = some in
        let x = into_stop cells (move_to cells S (held_in fws []) (counts_of live) T) ws ds w d 4 (at.position ∷ []) (rw f at (e [])) in
        record {
          words_long = lw ∙ t.words_long;
          deltas_long = ld ∙ t.deltas_long;
          left = n.0;
          power = subst Power (sym a) (power_twice T t.power);
          enough = subst (λ (m : ℕ). cells < m * 2 ^ n.0) (sym a) n.2;
          words = x.1;
          deltas = x.2;
          same = λ fds.
              next fds
              ∙ tries_full cells null S (held_in fws fds) (counts_of live) (clear_held cells) n.0 T (cleared []) l (at.position ∷ []) (into_stop cells (move_to cells S (held_in fws fds) (counts_of live) T) ws ds w d 4 (at.position ∷ []) (rw f at (e fds))).0
              ∙ ap (λ (m : ℕ). tries_from cells S (held_in fws fds) (counts_of live) n.0 m (cleared [])) (sym a);
        }

  -- no size is left
  pub over : (T : ℕ) (ws ds : List ℕ) → Trying cells S live fws first T ws₀ ds₀ ws ds → cells < T
      → (fds ow od : List ℕ) → record { end = no_room; words = ws; deltas = ds } ≡ tried_on cells (tries_from cells S (held_in fws fds) (counts_of live) sizes first (cleared [])) ow od
  over T ws ds t l fds ow od =
      let q = t.same fds ∙ tries_above cells null S (held_in fws fds) (counts_of live) (clear_held cells) t.left T (cleared []) l in
      (λ j. record { end = no_room; words = t.words j; deltas = t.deltas j }) ∙ sym (ap (λ (x : Tries). tried_on cells x ow od) q)

-- ---- before the loop

-- the first size is above the half's cells: the spare half stays
pub none : (cells S live : ℕ) (fws : List ℕ) (first : ℕ) (ws ds : List ℕ) → cells < first → (fds : List ℕ)
    → record { end = no_room; words = ws; deltas = ds } ≡ tried_on cells (tries_from cells S (held_in fws fds) (counts_of live) sizes first (stays [])) ws ds
none cells S live fws first ws ds l fds =
    sym (ap (λ (x : Tries). tried_on cells x ws ds) (tries_above cells null S (held_in fws fds) (counts_of live) (clear_held cells) sizes first (stays []) l))

-- else the tries go on from a clear spare half
pub some_fit : (cells S live : ℕ) (fws : List ℕ) (first : ℕ) (ws ds : List ℕ) (x : TriedOn) → first ≤ cells
    → ((fds ow od : List ℕ) → x ≡ tried_on cells (tries_from cells S (held_in fws fds) (counts_of live) sizes first (cleared [])) ow od)
    → (fds : List ℕ) → x ≡ tried_on cells (tries_from cells S (held_in fws fds) (counts_of live) sizes first (stays [])) ws ds
some_fit cells S live fws first ws ds x l e fds = e fds ws ds ∙ ap (λ (t : Tries). tried_on cells t ws ds) (go sizes refl)
  where
    go : (n : ℕ) → n ≡ sizes → tries_from cells S (held_in fws fds) (counts_of live) n first (cleared []) ≡ tries_from cells S (held_in fws fds) (counts_of live) n first (stays [])
    go zero e = absurd (omega arith)
    go (suc n) e = tries_fits cells null S (held_in fws fds) (counts_of live) (clear_held cells) n first l (cleared []) (stays [])
