-- Example 12 of document 01 and some published vectors, computed. Assumes nothing.
use mathlib.Core.Path.{◌≡◌, refl}
use mathlib.Core.List.{[], ◌∷◌}
use Rattle.util.specs.Bytes.{number, bytes_of}
use Rattle.hashers.specs.Published.{fold33, fmix64, fnv_byte, fnv1a, fnv_offset}
use Rattle.hashers.specs.Writes.{taken, replace_by, simple_write, murmur_write, fnv_write, fnv_start}
use Rattle.hashers.specs.Keys.{hash_of}
use Rattle.hashers.specs.declared.Hasher.TheVariants.{Fnv}

-- example 12: the empty string, written to the starting state (0 for Simple and Murmur)
pub simple_of_empty : simple_write 0 [] ≡ taken 0
unfolding replace_by number
simple_of_empty = refl

pub murmur_of_empty : murmur_write 0 [] ≡ taken 0
unfolding replace_by number fmix64 fold33
murmur_of_empty = refl

pub fnv_of_empty : fnv_write fnv_start [] ≡ record { 0 = 0xcbf29ce484222325 }
unfolding fnv1a
fnv_of_empty = refl

-- FNV-1a of "a" and of "foobar"
pub fnv_of_a : fnv1a fnv_offset (97 ∷ []) ≡ 0xaf63dc4c8601ec8c
unfolding fnv1a fnv_byte
fnv_of_a = refl

pub fnv_of_foobar : fnv1a fnv_offset (102 ∷ 111 ∷ 111 ∷ 98 ∷ 97 ∷ 114 ∷ []) ≡ 0x85944171f73967e8
unfolding fnv1a fnv_byte
fnv_of_foobar = refl

-- fmix64 of 0 and 1
pub fmix64_of_zero : fmix64 0 ≡ 0
unfolding fmix64 fold33
fmix64_of_zero = refl

pub fmix64_of_one : fmix64 1 ≡ 0xb456bcfc34c2cb2c
unfolding fmix64 fold33
fmix64_of_one = refl

-- the one key known whose hash under Fnv is 0
pub fnv_of_zero_key : hash_of Fnv 0x3608874253b96bd5 ≡ 0
unfolding hash_of fnv1a fnv_byte bytes_of
fnv_of_zero_key = refl
