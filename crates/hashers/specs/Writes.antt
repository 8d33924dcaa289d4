-- What a write to each hasher answers, with the state it leaves.
use Rattle.std.specs.Prelude.{cond, List, ℕ, leb, length, Result, Ok, Err}
use Rattle.util.specs.Bytes.{number}
use Rattle.hashers.specs.Published.{fmix64, fnv1a, fnv_offset}
use Rattle.hashers.specs.declared.fnv.FnvHasher.{FnvHasher}
use Rattle.hashers.specs.declared.murmur.MurmurHasher.{MurmurHasher}
use Rattle.hashers.specs.declared.simple.SimpleHasher.{SimpleHasher}
use Rattle.hashers.specs.declared.Unwritten.{Unwritten}

-- what a write says: taken, or refused by a number; and the state afterwards
pub data Wrote : Type 0 where
  taken : ℕ → Wrote
  refused : ℕ → ℕ → Wrote

-- at most 8 bytes replace the state by a function of their number; more are refused under 8 and leave it
unfoldable pub replace_by : (ℕ → ℕ) → ℕ → List ℕ → Wrote
replace_by f state s = cond (leb (length s) 8) (taken (f (number s))) (refused 8 state)

abbrev pub simple_write : ℕ → List ℕ → Wrote
simple_write = replace_by (λ x. x)

abbrev pub murmur_write : ℕ → List ℕ → Wrote
murmur_write = replace_by fmix64

-- Fnv mixes any bytes into the state
abbrev pub fnv_write : FnvHasher → List ℕ → FnvHasher
fnv_write h s = record { 0 = fnv1a h.0 s }

-- each case's number and state
abbrev pub simple_said : Result SimpleHasher (Unwritten SimpleHasher) → Wrote
simple_said (Ok h) = taken h.0
simple_said (Err e) = refused 8 e.0.0

abbrev pub murmur_said : Result MurmurHasher (Unwritten MurmurHasher) → Wrote
murmur_said (Ok h) = taken h.0
murmur_said (Err e) = refused 8 e.0.0

-- the starting states
abbrev pub simple_start : SimpleHasher
simple_start = record { 0 = 0 }

abbrev pub murmur_start : MurmurHasher
murmur_start = record { 0 = 0 }

abbrev pub fnv_start : FnvHasher
fnv_start = record { 0 = fnv_offset }
