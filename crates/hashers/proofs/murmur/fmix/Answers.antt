-- `hashers::murmur::fmix` meets its contract. Assumes nothing.
use Rattle.hashers.specs.Published.{fmix64, fold33}
use Rattle.hashers.proofs.murmur.fmix.Goals as goal

pub returns : goal.returns
unfolding fmix64 fold33
returns c = simp (c.wrapping_mul-d.ensures, c.wrapping_mul-b.ensures)
