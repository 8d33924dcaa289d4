-- The hash of a key. That it is the hash of the key's 8 little-endian bytes is proved in proofs/KeyHash.antt.
use Rattle.std.specs.Prelude.{ℕ}
use Rattle.util.specs.Bytes.{bytes_of}
use Rattle.hashers.specs.Published.{fmix64, fnv1a, fnv_offset}
use Rattle.hashers.specs.declared.Hasher.{Hasher}
use Rattle.hashers.specs.declared.Hasher.TheVariants.{Simple, Murmur, Fnv}

unfoldable pub hash_of : Hasher → ℕ → ℕ
hash_of Simple key = key
hash_of Murmur key = fmix64 key
hash_of Fnv key = fnv1a fnv_offset (bytes_of 8 key)
