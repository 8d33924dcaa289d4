-- A number and its little-endian bytes. Assumes nothing.
use mathlib.Core.Path.{◌≡◌, refl, sym, ap, ◌∙◌}
use mathlib.Core.List.{List, [], ◌∷◌, ◌++◌}
use Prim.Native.Nat.{ℕ, zero, suc, ◌+◌, ◌*◌, ◌/◌, ◌%◌, ◌^◌, ◌≤◌, ◌<◌}
use native.Mathlib.Nat.{pow-suc, le_of_suc-le-suc, not-suc-le-zero, div-add-mod', div-lt_iff_lt-mul}
use native.Mathlib.Omega.{arith}
use lib.Arith.{digits_lt, lt-one}
use lib.Dec.{lit<}
use lib.ListN.{length, get_or, drop, length-drop}
use lib.Seq.{get_or-drop, drop-append_seam, drop-length}
use Rattle.std.proofs.lemmas.List.{append_assoc, append-nil}
use Rattle.util.specs.Bytes.{number, bytes_of}

-- n bytes make a number below 256 ^ n
number_lt : (n : ℕ) (s : List ℕ) → length s ≤ n → ((k : ℕ) → get_or s k 0 < 256) → number s < 256 ^ n
unfolding number
number_lt zero [] h f = lit< tt
number_lt zero (b ∷ rest) h f = absurd (not-suc-le-zero h)
number_lt (suc n) [] h f = rw pow-suc (digits_lt {q = 0} {r = 0} (number_lt n [] (omega arith) f) (lit< tt))
number_lt (suc n) (b ∷ rest) h f = rw pow-suc (digits_lt (number_lt n rest (le_of_suc-le-suc h) (λ k. f (suc k))) (f 0))

-- the bytes from i on of at most 8 fit a word
pub rest_fits : (s : List ℕ) (i : ℕ) → length s ≤ 8 → ((k : ℕ) → get_or s k 0 < 256) → number (drop i s) < 2 ^ 64
rest_fits s i h f = number_lt 8 (drop i s) (rw length-drop (omega arith)) (λ k. rw get_or-drop (f (i + k)))

-- at the start all are left
pub all_left : (s r : List ℕ) → r ≡ s → (r ++ drop (length r) s ≡ s) × (0 ≡ number (drop (length r) s))
unfolding number
all_left s r e = rw e (ap (λ (t : List ℕ). s ++ t) (drop-length s) ∙ append-nil s, sym (ap number (drop-length s)))

-- one byte more from the end: of the bytes s, r are left, and then one fewer, r'
module _ (s r r' : List ℕ) (b : ℕ) (left : r ++ drop (length r) s ≡ s) (taken : r ≡ r' ++ b ∷ []) where
  pub still_left : r' ++ b ∷ drop (length r) s ≡ s
  still_left = sym (append_assoc r' (b ∷ []) (drop (length r) s)) ∙ ap (λ (t : List ℕ). t ++ drop (length r) s) (sym taken) ∙ left

  now_taken : drop (length r') s ≡ b ∷ drop (length r) s
  now_taken = ap (λ (t : List ℕ). drop (length r') t) (sym still_left) ∙ drop-append_seam r' (b ∷ drop (length r) s)

  pub one_left : r' ++ drop (length r') s ≡ s
  one_left = ap (λ (t : List ℕ). r' ++ t) now_taken ∙ still_left

  pub one_more : number (drop (length r) s) * 256 + b ≡ number (drop (length r') s)
  unfolding number
  one_more = sym (ap number now_taken)

-- the n bytes of a number that has no more make it again
pub number_bytes_of : (n x : ℕ) → x < 256 ^ n → number (bytes_of n x) ≡ x
unfolding number bytes_of
number_bytes_of zero x h = sym (lt-one h)
number_bytes_of (suc n) x h =
    ap (λ (t : ℕ). t * 256 + x % 256) (number_bytes_of n (x / 256) ((div-lt_iff_lt-mul (lit< tt)).1 (rw pow-suc at h))) ∙ div-add-mod' x 256

pub length_bytes_of : (n x : ℕ) → length (bytes_of n x) ≡ n
unfolding bytes_of
length_bytes_of zero x = refl
length_bytes_of (suc n) x = ap suc (length_bytes_of n (x / 256))
