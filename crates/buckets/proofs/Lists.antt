-- Lists that are written out by a function of the index, and lists with a part replaced. Assumes nothing.
use mathlib.Core.List.{List, [], ◌∷◌, ◌++◌}
use mathlib.Core.Path.{◌≡◌, refl, sym, ap, ◌∙◌}
use Prim.Native.Nat.{ℕ, zero, suc, ◌+◌, ◌-◌, ◌<◌, ◌≤◌}
use native.Mathlib.Decide.{dec_lt}
use native.Mathlib.Omega.{arith}
use lib.ListN.{length, get_or, take, drop, length-append, length-take, length-drop, get_or-append}
use lib.Seq.{get_or-append-add, get_or-take, get_or-drop, length-take-le}
use Rattle.buckets.specs.Buckets.{listed}

pub get_d_listed : {A : Type 0} (n : ℕ) (f : ℕ → A) (j : ℕ) (d : A) → j < n → get_or (listed n f) j d ≡ f j
get_d_listed zero f j d h = absurd (omega arith)
get_d_listed (suc n) f zero d h = refl
get_d_listed (suc n) f (suc j) d h = get_d_listed n (λ i. f (suc i)) j d (omega arith)

-- a list is its elements, listed
pub spelt : {A : Type 0} (v : List A) (d : A) → listed (length v) (λ i. get_or v i d) ≡ v
spelt [] d = refl
spelt {A} (x ∷ v) d = ap (λ (l : List A). x ∷ l) (spelt v d)

pub listed_same : {A : Type 0} (n : ℕ) (f g : ℕ → A) → ((j : ℕ) → j < n → f j ≡ g j) → listed n f ≡ listed n g
listed_same zero f g h = refl
listed_same {A} (suc n) f g h =
    ap (λ (x : A). x ∷ listed n (λ i. f (suc i))) (h 0 (omega arith))
    ∙ ap (λ (l : List A). g 0 ∷ l) (listed_same n (λ i. f (suc i)) (λ i. g (suc i)) (λ j q. h (suc j) (omega arith)))

-- a list of n elements is what is at each index
pub is_listed : {A : Type 0} (n : ℕ) (f : ℕ → A) (v : List A) (d : A) → length v ≡ n → ((j : ℕ) → j < n → get_or v j d ≡ f j) → v ≡ listed n f
is_listed n f v d own h = sym (rw own at (spelt v d)) ∙ listed_same n (λ i. get_or v i d) f h

-- n elements of a list, from i on
pub part_listed : (n : ℕ) (l : List ℕ) (i : ℕ) → i + n ≤ length l → take n (drop i l) ≡ listed n (λ j. get_or l (i + j) 0)
part_listed n l i fits =
    is_listed n (λ j. get_or l (i + j) 0) (take n (drop i l)) 0 (simp (length-take, length-drop) (omega arith))
    (λ j h. get_or-take n (drop i l) j 0 h ∙ get_or-drop i l j 0)

-- a list with the part from n on replaced by v
module _ (l v : List ℕ) (n m : ℕ) (own : length v ≡ m) (fits : n + m ≤ length l) where
  pub replaced_length : length (take n l ++ v ++ drop (n + m) l) ≡ length l
  replaced_length = simp (length-append, length-take, length-drop) (omega arith)

  head : length (take n l ++ v) ≡ n + m
  head = simp (length-append, length-take) (omega arith)

  replaced_before : (i : ℕ) → i < n → get_or (take n l ++ v ++ drop (n + m) l) i 0 ≡ get_or l i 0
  replaced_before i h =
      let t : length (take n l) ≡ n = length-take-le n l (omega arith) in
      get_or-append (take n l ++ v) (drop (n + m) l) 0 i (omega (arith, head))
      ∙ get_or-append (take n l) v 0 i (omega arith)
      ∙ get_or-take n l i 0 h

  pub replaced_own : (j : ℕ) → j < m → get_or (take n l ++ v ++ drop (n + m) l) (n + j) 0 ≡ get_or v j 0
  replaced_own j h =
      let t : length (take n l) ≡ n = length-take-le n l (omega arith) in
      get_or-append (take n l ++ v) (drop (n + m) l) 0 (n + j) (omega (arith, head))
      ∙ (rw t at (get_or-append-add (take n l) v j 0))

  replaced_after : (i : ℕ) → n + m ≤ i → get_or (take n l ++ v ++ drop (n + m) l) i 0 ≡ get_or l i 0
  replaced_after i h =
      let e : i ≡ n + m + (i - (n + m)) = omega arith in
      let a = rw head at (get_or-append-add (take n l ++ v) (drop (n + m) l) (i - (n + m)) 0) in
      let d = get_or-drop (n + m) l (i - (n + m)) 0 in
      rw (← e) at (a ∙ d)

  pub replaced_other : (i : ℕ) → (n ≤ i → i < n + m → ⊥) → get_or (take n l ++ v ++ drop (n + m) l) i 0 ≡ get_or l i 0
  replaced_other i out = go (dec_lt i n)
    where
      go : Dec (i < n) → get_or (take n l ++ v ++ drop (n + m) l) i 0 ≡ get_or l i 0
      go (yes p) = replaced_before i p
      go (no p) = go2 (dec_lt i (n + m))
        where
          go2 : Dec (i < n + m) → get_or (take n l ++ v ++ drop (n + m) l) i 0 ≡ get_or l i 0
          go2 (yes q) = absurd (out (omega arith) q)
          go2 (no q) = replaced_after i (omega arith)

pub four_listed : {A : Type 0} (f : ℕ → A) (v : List A) (d : A) → length v ≡ 4 → get_or v 0 d ≡ f 0 → get_or v 1 d ≡ f 1 → get_or v 2 d ≡ f 2 → get_or v 3 d ≡ f 3 → v ≡ listed 4 f
four_listed {A} f v d own a b c e = is_listed 4 f v d own at
  where
    at : (j : ℕ) → j < 4 → get_or v j d ≡ f j
    at zero h = a
    at (suc zero) h = b
    at (suc (suc zero)) h = c
    at (suc (suc (suc zero))) h = e
    at (suc (suc (suc (suc j)))) h = absurd (omega arith)
