-- `hashers::leapfrog_hash_fnv` meets its contract. Assumes nothing.
use mathlib.Core.Path.{ap}
use Rattle.hashers.specs.declared.fnv.FnvHasher.{FnvHasher}
use Rattle.hashers.proofs.leapfrog_hash_fnv.Goals as goal

pub returns : goal.returns
returns c = ap (λ (h : FnvHasher). h.0) c.write.ensures
