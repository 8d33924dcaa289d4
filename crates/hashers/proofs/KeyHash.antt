-- The hash of a key is what its hasher holds after the key's 8 little-endian bytes. Assumes nothing.
use mathlib.Core.Path.{◌≡◌, refl, ap}
use Prim.Native.Nat.{ℕ, ◌^◌, ◌<◌}
use lib.Dec.{lit<}
use Rattle.util.specs.Bytes.{bytes_of}
use Rattle.util.proofs.Loading.{number_bytes_of}
use Rattle.hashers.specs.Published.{fold33, fmix64, fnv_offset}
use Rattle.hashers.specs.Writes.{taken, replace_by, simple_write, murmur_write, fnv_write, fnv_start}
use Rattle.hashers.specs.Keys.{hash_of}
use Rattle.hashers.specs.declared.Hasher.{Hasher}
use Rattle.hashers.specs.declared.Hasher.TheVariants.{Simple, Murmur, Fnv}
use Rattle.hashers.proofs.Mixing.{fnv1a_lt}
use Rattle.hashers.proofs.Bijection.{fmix64_lt, fmix64_zero_only}

-- Simple and Murmur: whatever their state was, since a write replaces it
replaced_by_key : (f : ℕ → ℕ) (state key : ℕ) → key < 2 ^ 64 → replace_by f state (bytes_of 8 key) ≡ taken (f key)
unfolding replace_by bytes_of
replaced_by_key f state key l = ap (λ (t : ℕ). taken (f t)) (number_bytes_of 8 key l)

pub simple_of_bytes : (state key : ℕ) → key < 2 ^ 64 → simple_write state (bytes_of 8 key) ≡ taken (hash_of Simple key)
unfolding hash_of
simple_of_bytes = replaced_by_key (λ x. x)

pub murmur_of_bytes : (state key : ℕ) → key < 2 ^ 64 → murmur_write state (bytes_of 8 key) ≡ taken (hash_of Murmur key)
unfolding hash_of
murmur_of_bytes = replaced_by_key fmix64

-- Fnv: from its starting state
pub fnv_of_bytes : (key : ℕ) → fnv_write fnv_start (bytes_of 8 key) ≡ record { 0 = hash_of Fnv key }
unfolding hash_of
fnv_of_bytes key = refl

-- every hash fits a word
pub hash_lt : (hasher : Hasher) (key : ℕ) → key < 2 ^ 64 → hash_of hasher key < 2 ^ 64
unfolding hash_of
hash_lt Simple key l = l
hash_lt Murmur key l = fmix64_lt key
hash_lt Fnv key l = fnv1a_lt fnv_offset (bytes_of 8 key) (lit< tt)

-- under Simple and Murmur only the key 0 has the hash 0
pub simple_zero_only : (key : ℕ) → hash_of Simple key ≡ 0 → key ≡ 0
unfolding hash_of
simple_zero_only key e = e

pub simple_of_zero : hash_of Simple 0 ≡ 0
unfolding hash_of
simple_of_zero = refl

pub murmur_zero_only : (key : ℕ) → key < 2 ^ 64 → hash_of Murmur key ≡ 0 → key ≡ 0
unfolding hash_of
murmur_zero_only = fmix64_zero_only

pub murmur_of_zero : hash_of Murmur 0 ≡ 0
unfolding hash_of fmix64 fold33
murmur_of_zero = refl
