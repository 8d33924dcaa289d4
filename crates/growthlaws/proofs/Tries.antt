-- The sizes that are tried after Full: each twice the one before, up to C. Assumes nothing.
use mathlib.Core.Bool.{true}
use mathlib.Core.List.{List, []}
use mathlib.Core.Logic.{◌≢◌}
use mathlib.Core.Path.{◌≡◌, refl, sym, ap, subst, ◌∙◌}
use Prim.Native.Nat.{ℕ, zero, suc, ◌*◌, ◌^◌, ◌≤◌, ◌<◌}
use native.Mathlib.Decide.{ℕ_discrete, dec_le}
use native.Mathlib.Nat.{mul-one, mul_assoc, mul_comm, mul-le-mul_left, mul-le-mul_right, pow-suc}
use native.Mathlib.Omega.{arith}
use borrow.Author.Tests.{ne_eqb, le-leb, lt-leb}
use lib.Pow.{pow_pos}
use Rattle.rules.specs.Sizes.{is_size, least_log}
use Rattle.rules.specs.Cells.{Counts}
use Rattle.rules.specs.Moves.{Held, Became, cleared, Ended, all, stop, move_all}
use Rattle.rules.specs.Growing.{moved, no_room, broken, Tries, tries, sizes}
use Rattle.steps.proofs.Sizes.{size_greatest}
use Rattle.growthlaws.specs.Tries as ways
use Rattle.growthlaws.specs.Tries.{FullAt, TriesWay}

-- ---- a size, doubled

pub one_further : (F n : ℕ) → F * 2 ^ suc n ≡ 2 * F * 2 ^ n
one_further F n = ap (λ (x : ℕ). F * x) (pow-suc 2 n ∙ mul_comm (2 ^ n) 2) ∙ sym (mul_assoc F 2 (2 ^ n)) ∙ ap (λ (x : ℕ). x * 2 ^ n) (mul_comm F 2)

pub none_further : (F : ℕ) → F * 2 ^ 0 ≡ F
none_further F = mul-one F

pub grows : (F n : ℕ) → F ≤ F * 2 ^ n
grows F n = subst (λ (x : ℕ). x ≤ F * 2 ^ n) (mul-one F) (mul-le-mul_left F (pow_pos n))

-- ---- step by step, as the code takes them

module _ (C null S : ℕ) (from : Held) (c : Counts) (clear : Held) where
  -- a size above C is not tried
  pub tries_above : (left T : ℕ) (spare : Became) → C < T → tries C null S from c clear left T spare ≡ record { end = no_room; spare = spare }
  unfolding tries
  tries_above zero T spare l = refl
  tries_above (suc left) T spare l = rw (lt-leb T C l)

  module _ (left T : ℕ) (spare : Became) (l : T ≤ C) where
    -- all went over
    pub tries_all : (c' : Counts) → (move_all null S from c T clear).ended ≡ all c'
        → tries C null S from c clear (suc left) T spare ≡ record { end = moved T c' (move_all null S from c T clear).fills; spare = cleared (move_all null S from c T clear).fills }
    unfolding tries
    tries_all c' e = rw (le-leb T C l, e)

    -- Full: twice the size is next
    pub tries_full : (carried : List ℕ) → (move_all null S from c T clear).ended ≡ stop 4 carried
        → tries C null S from c clear (suc left) T spare ≡ tries C null S from c clear left (2 * T) (cleared [])
    unfolding tries
    tries_full carried e = rw (le-leb T C l, e)

    -- any other trouble
    pub tries_broken : (n : ℕ) (carried : List ℕ) → n ≢ 4 → (move_all null S from c T clear).ended ≡ stop n carried
        → tries C null S from c clear (suc left) T spare ≡ record { end = broken; spare = cleared [] }
    unfolding tries
    tries_broken n carried o e = rw (le-leb T C l, e, ne_eqb n 4 o)

  -- ---- how they end

  abbrev Way : (F : ℕ) → Became → Tries → Type 0
  Way F spare t = TriesWay C null S from c clear F spare t

  abbrev Full : ℕ → Type 0
  Full T = FullAt null S from c clear T

  -- a try of F was Full, and what follows began with twice F
  module _ (F : ℕ) (f : Full F) where
    full_before : (n : ℕ) → ((j : ℕ) → j < n → Full (2 * F * 2 ^ j)) → (j : ℕ) → j < suc n → Full (F * 2 ^ j)
    full_before n g zero l = rw (none_further F) f
    full_before n g (suc j) l = rw (one_further F j) (g j (omega arith))

    full_up_to : ((j : ℕ) → 2 * F * 2 ^ j ≤ C → Full (2 * F * 2 ^ j)) → (j : ℕ) → F * 2 ^ j ≤ C → Full (F * 2 ^ j)
    full_up_to g zero l = rw (none_further F) f
    full_up_to g (suc j) l = rw (one_further F j) (g j (rw (one_further F j) at l))

    after_full : (spare : Became) (t : Tries) → F ≤ C → Way (2 * F) (cleared []) t → Way F spare t
    after_full spare t l (ways.untried u e) = ways.all_full l (full_up_to (λ j y. absurd (omega (arith, grows (2 * F) j)))) e
    after_full spare t l (ways.all_full u g e) = ways.all_full l (full_up_to g) e
    after_full spare t l (ways.breaks x e) =
        ways.breaks
        (record {
          before = suc x.before;
          most = rw (one_further F x.before) x.most;
          number = x.number;
          carried = x.carried;
          ended = rw (one_further F x.before) x.ended;
          other = x.other;
        })
        e
    after_full spare t l (ways.moves T c' fills m e) =
        ways.moves T c' fills
        (record {
          before = suc m.before;
          size = m.size ∙ sym (one_further F m.before);
          full = full_before m.before m.full;
          least = omega (arith, m.least);
          most = m.most;
          ended = m.ended;
          filled = m.filled;
        })
        e

  -- with a size for each that is at most C, they end in one of these ways
  pub tries_way : (left F : ℕ) (spare : Became) → C < F * 2 ^ left → TriesWay C null S from c clear F spare (tries C null S from c clear left F spare)
  tries_way zero F spare l = let u : C < F = omega (arith, none_further F) in ways.untried u (tries_above zero F spare u)
  tries_way (suc left) F spare l = go (dec_le F C) (tries_way left (2 * F) (cleared []) (rw (one_further F left) at l))
    where
      ended : F ≤ C → Way (2 * F) (cleared []) (tries C null S from c clear left (2 * F) (cleared [])) → (x : Ended) → (move_all null S from c F clear).ended ≡ x
          → Way F spare (tries C null S from c clear (suc left) F spare)
      ended y w (all c') e =
          ways.moves F c' (move_all null S from c F clear).fills
          (record {
            before = 0;
            size = sym (none_further F);
            full = λ j i. absurd (omega arith);
            least = omega arith;
            most = y;
            ended = e;
            filled = refl;
          })
          (tries_all left F spare y c' e)
      ended y w (stop n carried) e = other (ℕ_discrete n 4)
        where
          other : Dec (n ≡ 4) → Way F spare (tries C null S from c clear (suc left) F spare)
          other (yes q) =
              let f : (move_all null S from c F clear).ended ≡ stop 4 carried = e ∙ ap (λ (n : ℕ). stop n carried) q in
              rw (tries_full left F spare y carried f) (after_full F (record { carried = carried; ended = f }) spare _ y w)
          other (no q) =
              ways.breaks
              (record {
                before = 0;
                most = rw (none_further F) y;
                number = n;
                carried = carried;
                ended = rw (none_further F) e;
                other = q;
              })
              (tries_broken left F spare y n carried q e)

      go : Dec (F ≤ C) → Way (2 * F) (cleared []) (tries C null S from c clear left (2 * F) (cleared [])) → Way F spare (tries C null S from c clear (suc left) F spare)
      go (yes y) w = ended y w (move_all null S from c F clear).ended refl
      go (no y) w = ways.untried (omega arith) (tries_above (suc left) F spare (omega arith))

  -- more tries than that change nothing
  pub tries_enough : (left more F : ℕ) (spare : Became) → left ≤ more → C < F * 2 ^ left → tries C null S from c clear more F spare ≡ tries C null S from c clear left F spare
  unfolding tries
  tries_enough zero more F spare l e =
      let u : C < F = omega (arith, none_further F) in
      tries_above more F spare u ∙ sym (tries_above zero F spare u)
  tries_enough (suc left) zero F spare l e = absurd (omega arith)
  tries_enough (suc left) (suc more) F spare l e = rw (tries_enough left more (2 * F) (cleared []) (omega arith) (rw (one_further F left) at e))

-- ---- there are enough: the sizes from any allowed one on pass every allowed C

pub sizes_enough : (C F : ℕ) → is_size C ≡ true → 2 ^ least_log ≤ F → C < F * 2 ^ sizes
sizes_enough C F s l = let g = size_greatest C s in omega (arith, mul-le-mul_right (2 ^ sizes) l)

-- where a size is tried there is one left, and enough for the next
pub one_left : (C T left : ℕ) → T ≤ C → C < T * 2 ^ left → (n : ℕ) × (left ≡ suc n) × (C < 2 * T * 2 ^ n)
one_left C T zero l e = absurd (omega (arith, none_further T))
one_left C T (suc n) l e = (n, refl, rw (one_further T n) at e)
