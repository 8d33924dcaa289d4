-- The two published hashes. FNV-1a (64 bit): the description by Fowler, Noll and Vo. fmix64: the public source of MurmurHash3.
use Rattle.std.specs.Prelude.{List, [], ◌∷◌, ℕ, ◌*◌, ◌/◌, ◌%◌, ◌^◌}
use Rattle.std.specs.Int.Bits.{bit_xor}

-- x with its upper bits, 33 places down, folded in
unfoldable pub fold33 : ℕ → ℕ
fold33 x = bit_xor x (x / 2 ^ 33)

-- fmix64: fold, multiply, fold, multiply, fold
unfoldable pub fmix64 : ℕ → ℕ
fmix64 x = fold33 (fold33 (fold33 x * 0xff51afd7ed558ccd % 2 ^ 64) * 0xc4ceb9fe1a85ec53 % 2 ^ 64)

-- FNV's offset basis for 64 bits
abbrev pub fnv_offset : ℕ
fnv_offset = 0xcbf29ce484222325

-- one byte of FNV-1a: xor it in, then multiply by the 64-bit prime
unfoldable pub fnv_byte : ℕ → ℕ → ℕ
fnv_byte state b = bit_xor state b * 0x100000001b3 % 2 ^ 64

-- FNV-1a from a state on, byte by byte
unfoldable pub fnv1a : ℕ → List ℕ → ℕ
fnv1a state [] = state
fnv1a state (b ∷ rest) = fnv1a (fnv_byte state b) rest
