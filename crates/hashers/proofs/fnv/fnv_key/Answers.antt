-- `hashers::fnv_key` meets its contract. Assumes nothing.
use mathlib.Core.Path.{ap, ◌∙◌}
use Rattle.hashers.specs.Published.{fnv1a, fnv_offset}
use Rattle.hashers.specs.Keys.{hash_of}
use Rattle.hashers.specs.declared.fnv.FnvHasher.{FnvHasher}
use Rattle.hashers.proofs.Mixing.{key_bytes}
use Rattle.hashers.proofs.fnv.fnv_key.Goals as goal

pub returns : goal.returns
unfolding hash_of
returns c = ap (λ (h : FnvHasher). h.0) c.write.ensures ∙ ap (fnv1a fnv_offset) (c.to_le_bytes.ensures ∙ key_bytes c.args.key)
