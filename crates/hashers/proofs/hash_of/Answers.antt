-- `hashers::hash_of` meets its contract. Assumes nothing.
use borrow.Author.Rules.{rules}
use mathlib.Core.Path.{sym, ap, ◌∙◌}
use Rattle.hashers.specs.Keys.{hash_of}
use Rattle.hashers.specs.declared.Hasher.{Hasher}
use Rattle.hashers.proofs.hash_of.Goals as goal

pub returns-in-Simple : goal.returns-in-Simple
unfolding hash_of
returns-in-Simple c = search rules

pub returns-in-Murmur : goal.returns-in-Murmur
unfolding hash_of
returns-in-Murmur c = c.fmix.ensures ∙ sym (ap (λ (h : Hasher). hash_of h c.args.key) c.in-Murmur.is)

pub returns-in-Fnv : goal.returns-in-Fnv
returns-in-Fnv c = c.fnv_key.ensures ∙ sym (ap (λ (h : Hasher). hash_of h c.args.key) c.in-Fnv.is)
