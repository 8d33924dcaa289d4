-- The front of the half in use, as the code cuts it. Assumes nothing.
use mathlib.Core.Bool.{true, false, ◌&&◌}
use mathlib.Core.List.{List, []}
use mathlib.Core.Path.{◌≡◌, refl, sym, ap, ◌∙◌, subst}
use Rattle.std.proofs.lemmas.Bool.{and_parts}
use Prim.Native.Nat.{ℕ, ◌*◌, ◌^◌, ◌≤◌}
use native.Mathlib.Nat.{mul-le-mul_left}
use lib.ListN.{length, take}
use Rattle.rules.specs.Sizes.{greatest_log}
use Rattle.steps.proofs.Sizes.{size_greatest}
use Rattle.parts.specs.Halves.{half_of, of_half, are_pair, record_fits, part}
use Rattle.parts.specs.declared.Half.{Half}
use Rattle.parts.specs.declared.Half.TheVariants.{Lower, Upper}
use Rattle.parts.specs.declared.Growing.{Growing}
use Rattle.parts.proofs.Checks.{pair_holds, record_holds}

-- it lies within both slices, whose lengths are l and u, and its size is an allowed one
pub front_within : (each C l u : ℕ) (g : Growing) → are_pair each C l u && record_fits C g ≡ true → (each * g.size ≤ l) × (each * g.size ≤ u) × (g.size ≤ 2 ^ greatest_log)
front_within each C l u g e =
    let a = and_parts (are_pair each C l u) _ e in
    let p = pair_holds each C l u a.0 in
    let f = record_holds C g a.1 in
    let m = mul-le-mul_left each f.most in
    (subst (λ (n : ℕ). each * g.size ≤ n) (sym p.lower) m, subst (λ (n : ℕ). each * g.size ≤ n) (sym p.upper) m, size_greatest g.size f.size)

module _ {A : Type 0} (each C : ℕ) (l u : List A) (g : Growing) where
  -- past the tests it is the part
  pub part_at : are_pair each C (length l) (length u) && record_fits C g ≡ true → (h : Half) → g.half ≡ h → take (each * g.size) (of_half (half_of h) l u) ≡ part each C l u g
  unfolding part
  part_at e h eh = rw (e, eh)

  -- else the part has length 0
  pub part_none : are_pair each C (length l) (length u) && record_fits C g ≡ false → [] ≡ part each C l u g
  unfolding part
  part_none e = rw e

  -- the half in use is as long as the part
  pub part_within : are_pair each C (length l) (length u) && record_fits C g ≡ true → (x : List A) → x ≡ of_half (half_of g.half) l u → each * g.size ≤ length x
  part_within e x ex = rw ex (go g.half)
    where
      go : (h : Half) → each * g.size ≤ length (of_half (half_of h) l u)
      go Lower = (front_within each C (length l) (length u) g e).0
      go Upper = (front_within each C (length l) (length u) g e).1

  pub part_cut : are_pair each C (length l) (length u) && record_fits C g ≡ true → (x : List A) → x ≡ of_half (half_of g.half) l u → take (each * g.size) x ≡ part each C l u g
  part_cut e x ex = ap (take (each * g.size)) ex ∙ part_at e g.half refl
