-- What C is given: the hash of the bytes from the starting state, and 0 for a refusal.
use Rattle.std.specs.Prelude.{List, ℕ}
use Rattle.hashers.specs.Published.{fnv1a, fnv_offset}
use Rattle.hashers.specs.Writes.{Wrote, taken, refused, simple_write, murmur_write}

abbrev pub given : Wrote → ℕ
given (taken state) = state
given (refused number state) = 0

abbrev pub simple_c : List ℕ → ℕ
simple_c s = given (simple_write 0 s)

abbrev pub murmur_c : List ℕ → ℕ
murmur_c s = given (murmur_write 0 s)

abbrev pub fnv_c : List ℕ → ℕ
fnv_c s = fnv1a fnv_offset s
