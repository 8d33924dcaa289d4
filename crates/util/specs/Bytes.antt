-- Numbers and their little-endian bytes.
use Rattle.std.specs.Prelude.{cond, List, [], ◌∷◌, ℕ, zero, suc, ◌+◌, ◌*◌, ◌/◌, ◌%◌, leb, length, Result, Ok, Err}
use Rattle.util.specs.declared.TooLong.{TooLong}

-- the number whose bytes are given, lowest first; bytes past the end of the list count 0
unfoldable pub number : List ℕ → ℕ
number [] = 0
number (b ∷ rest) = number rest * 256 + b

-- the lowest n bytes of x, lowest first
unfoldable pub bytes_of : ℕ → ℕ → List ℕ
bytes_of zero x = []
bytes_of (suc n) x = x % 256 ∷ bytes_of n (x / 256)

-- what a load says: a number, or a refusal by its number
pub data Said : Type 0 where
  is : ℕ → Said
  refused : ℕ → Said

-- at most 8 bytes are their number; more are refused under 8
unfoldable pub load : List ℕ → Said
load s = cond (leb (length s) 8) (is (number s)) (refused 8)

-- each case's number and value
abbrev pub said : Result ℕ TooLong → Said
said (Ok n) = is n
said (Err e) = refused 8
