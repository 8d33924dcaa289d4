-- One outcome for each call of hashers, those for C too. Assumes nothing.
use mathlib.Core.List.{List}
use mathlib.Core.Path.{◌≡◌, refl}
use Prim.Native.Nat.{ℕ}
use Rattle.std.specs.Prelude.{Result, Ok, Err}
use Rattle.hashers.specs.Writes.{Wrote, taken, refused, simple_said, simple_write, simple_start, murmur_said, murmur_write, murmur_start, fnv_write, fnv_start}
use Rattle.hashers.specs.Keys.{hash_of}
use Rattle.hashers.specs.Exports.{simple_c, murmur_c, fnv_c}
use Rattle.hashers.specs.declared.Hasher.{Hasher}
use Rattle.hashers.specs.declared.Unwritten.{Unwritten}
use Rattle.hashers.specs.declared.simple.SimpleHasher.{SimpleHasher}
use Rattle.hashers.specs.declared.murmur.MurmurHasher.{MurmurHasher}
use Rattle.hashers.specs.declared.fnv.FnvHasher.{FnvHasher}
use Rattle.outcomes.proofs.One.{both, one}

-- ---- Simple

pub simple_hasher_new_one_outcome : (r₁ r₂ : SimpleHasher) → r₁ ≡ simple_start → r₂ ≡ simple_start → r₁ ≡ r₂
simple_hasher_new_one_outcome r₁ r₂ e₁ e₂ = both e₁ e₂

-- the answer that is said so
abbrev simple_unsaid : Wrote → Result SimpleHasher (Unwritten SimpleHasher)
simple_unsaid (taken n) = Ok (record { 0 = n })
simple_unsaid (refused k n) = Err (record { 0 = record { 0 = n } })

simple_back : (a : Result SimpleHasher (Unwritten SimpleHasher)) → simple_unsaid (simple_said a) ≡ a
simple_back (Ok h) = refl
simple_back (Err e) = refl

pub simple_hasher_write_one_outcome : (self : SimpleHasher) (bytes : List ℕ) (r₁ r₂ : Result SimpleHasher (Unwritten SimpleHasher))
    → simple_said r₁ ≡ simple_write self.0 bytes
    → simple_said r₂ ≡ simple_write self.0 bytes
    → r₁ ≡ r₂
simple_hasher_write_one_outcome self bytes r₁ r₂ e₁ e₂ = one simple_said simple_unsaid simple_back r₁ r₂ (both e₁ e₂)

pub simple_hasher_finish_one_outcome : (self : SimpleHasher) (r₁ r₂ : ℕ) → r₁ ≡ self.0 → r₂ ≡ self.0 → r₁ ≡ r₂
simple_hasher_finish_one_outcome self r₁ r₂ e₁ e₂ = both e₁ e₂

-- ---- Murmur

pub murmur_hasher_new_one_outcome : (r₁ r₂ : MurmurHasher) → r₁ ≡ murmur_start → r₂ ≡ murmur_start → r₁ ≡ r₂
murmur_hasher_new_one_outcome r₁ r₂ e₁ e₂ = both e₁ e₂

abbrev murmur_unsaid : Wrote → Result MurmurHasher (Unwritten MurmurHasher)
murmur_unsaid (taken n) = Ok (record { 0 = n })
murmur_unsaid (refused k n) = Err (record { 0 = record { 0 = n } })

murmur_back : (a : Result MurmurHasher (Unwritten MurmurHasher)) → murmur_unsaid (murmur_said a) ≡ a
murmur_back (Ok h) = refl
murmur_back (Err e) = refl

pub murmur_hasher_write_one_outcome : (self : MurmurHasher) (bytes : List ℕ) (r₁ r₂ : Result MurmurHasher (Unwritten MurmurHasher))
    → murmur_said r₁ ≡ murmur_write self.0 bytes
    → murmur_said r₂ ≡ murmur_write self.0 bytes
    → r₁ ≡ r₂
murmur_hasher_write_one_outcome self bytes r₁ r₂ e₁ e₂ = one murmur_said murmur_unsaid murmur_back r₁ r₂ (both e₁ e₂)

pub murmur_hasher_finish_one_outcome : (self : MurmurHasher) (r₁ r₂ : ℕ) → r₁ ≡ self.0 → r₂ ≡ self.0 → r₁ ≡ r₂
murmur_hasher_finish_one_outcome self r₁ r₂ e₁ e₂ = both e₁ e₂

-- ---- Fnv

pub fnv_hasher_new_one_outcome : (r₁ r₂ : FnvHasher) → r₁ ≡ fnv_start → r₂ ≡ fnv_start → r₁ ≡ r₂
fnv_hasher_new_one_outcome r₁ r₂ e₁ e₂ = both e₁ e₂

pub fnv_hasher_write_one_outcome : (self : FnvHasher) (bytes : List ℕ) (r₁ r₂ : FnvHasher) → r₁ ≡ fnv_write self bytes → r₂ ≡ fnv_write self bytes → r₁ ≡ r₂
fnv_hasher_write_one_outcome self bytes r₁ r₂ e₁ e₂ = both e₁ e₂

pub fnv_hasher_finish_one_outcome : (self : FnvHasher) (r₁ r₂ : ℕ) → r₁ ≡ self.0 → r₂ ≡ self.0 → r₁ ≡ r₂
fnv_hasher_finish_one_outcome self r₁ r₂ e₁ e₂ = both e₁ e₂

-- ---- a key's hash, and what C is given

pub hash_of_one_outcome : (hasher : Hasher) (key : ℕ) (r₁ r₂ : ℕ) → r₁ ≡ hash_of hasher key → r₂ ≡ hash_of hasher key → r₁ ≡ r₂
hash_of_one_outcome hasher key r₁ r₂ e₁ e₂ = both e₁ e₂

pub leapfrog_hash_simple_one_outcome : (bytes : List ℕ) (r₁ r₂ : ℕ) → r₁ ≡ simple_c bytes → r₂ ≡ simple_c bytes → r₁ ≡ r₂
leapfrog_hash_simple_one_outcome bytes r₁ r₂ e₁ e₂ = both e₁ e₂

pub leapfrog_hash_murmur_one_outcome : (bytes : List ℕ) (r₁ r₂ : ℕ) → r₁ ≡ murmur_c bytes → r₂ ≡ murmur_c bytes → r₁ ≡ r₂
leapfrog_hash_murmur_one_outcome bytes r₁ r₂ e₁ e₂ = both e₁ e₂

pub leapfrog_hash_fnv_one_outcome : (bytes : List ℕ) (r₁ r₂ : ℕ) → r₁ ≡ fnv_c bytes → r₂ ≡ fnv_c bytes → r₁ ≡ r₂
leapfrog_hash_fnv_one_outcome bytes r₁ r₂ e₁ e₂ = both e₁ e₂
