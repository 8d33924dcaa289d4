-- The hashers' numbers in requests and answers.
use Rattle.std.specs.Prelude.{ℕ}
use Rattle.hashers.specs.declared.Hasher.{Hasher}
use Rattle.hashers.specs.declared.Hasher.TheVariants.{Simple, Murmur, Fnv}

abbrev pub number_of : Hasher → ℕ
number_of Simple = 1
number_of Murmur = 2
number_of Fnv = 3
