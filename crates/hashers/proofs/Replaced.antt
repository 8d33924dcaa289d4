-- What a load says decides what a write to Simple or Murmur says. Assumes nothing.
use mathlib.Core.Path.{◌≡◌, refl, ap}
use mathlib.Core.Bool.{Bool, true, false, cond}
use mathlib.Core.List.{List}
use Prim.Native.Nat.{ℕ}
use native.Mathlib.Omega.{arith}
use lib.Dec.{leb}
use lib.ListN.{length}
use Rattle.util.specs.Bytes.{number, load, is}
use Rattle.util.specs.Bytes as bytes
use Rattle.hashers.specs.Writes.{taken, refused, replace_by}

module _ (f : ℕ → ℕ) (state : ℕ) (s : List ℕ) where
  pub of_number : (n : ℕ) → is n ≡ load s → taken (f n) ≡ replace_by f state s
  unfolding load replace_by
  of_number n = go (leb (length s) 8)
    where
      go : (b : Bool) → is n ≡ cond b (is (number s)) (bytes.refused 8) → taken (f n) ≡ cond b (taken (f (number s))) (refused 8 state)
      go true e = let n= : n ≡ number s = cc in ap (λ (t : ℕ). taken (f t)) n=
      go false e = let z : ◌≡◌ {A = ℕ} 0 1 = cc in absurd (omega arith)

  pub of_length : bytes.refused 8 ≡ load s → refused 8 state ≡ replace_by f state s
  unfolding load replace_by
  of_length = go (leb (length s) 8)
    where
      go : (b : Bool) → bytes.refused 8 ≡ cond b (is (number s)) (bytes.refused 8) → refused 8 state ≡ cond b (taken (f (number s))) (refused 8 state)
      go true e = let z : ◌≡◌ {A = ℕ} 0 1 = cc in absurd (omega arith)
      go false e = refl
