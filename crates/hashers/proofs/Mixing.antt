-- FNV-1a, byte by byte. Assumes nothing.
use mathlib.Core.Path.{◌≡◌, refl, sym, ap}
use mathlib.Core.List.{List, [], ◌∷◌}
use Prim.Native.Nat.{ℕ, ◌+◌, ◌*◌, ◌^◌, ◌<◌}
use native.Mathlib.Nat.{mod-lt, div-div-eq-div-mul}
use native.Mathlib.Numerals.{add-one}
use lib.Bits.{bit_xor}
use lib.ListN.{length, get_or, drop}
use lib.Pow.{pow_pos}
use lib.Seq.{drop-cons}
use Rattle.std.specs.Int.{to_le_bytes, w64}
use Rattle.util.specs.Bytes.{bytes_of}
use Rattle.hashers.specs.Published.{fnv_byte, fnv1a}

-- the next byte of a slice
pub fnv_next : (state : ℕ) (s : List ℕ) (i : ℕ) → i < length s → fnv1a (fnv_byte state (get_or s i 0)) (drop (i + 1) s) ≡ fnv1a state (drop i s)
unfolding fnv1a
fnv_next state s i l = rw add-one (sym (ap (fnv1a state) (drop-cons s i 0 l)))

-- the bytes that the library writes a number as
pub key_bytes : (n : ℕ) → to_le_bytes w64 n ≡ bytes_of 8 n
unfolding bytes_of
key_bytes n = simp div-div-eq-div-mul refl

-- a state below 2 ^ 64 stays so
pub fnv1a_lt : (state : ℕ) (s : List ℕ) → state < 2 ^ 64 → fnv1a state s < 2 ^ 64
unfolding fnv1a fnv_byte
fnv1a_lt state [] l = l
fnv1a_lt state (b ∷ rest) l = fnv1a_lt (fnv_byte state b) rest (mod-lt (bit_xor state b * 0x100000001b3) (pow_pos 64))
