-- `hashers::FnvHasher::write` meets its contract: what is left, from the state reached, gives the whole. Assumes nothing.
use borrow.Author.Rules.{rules}
use mathlib.Core.Path.{◌≡◌, sym, ap, ◌∙◌}
use Prim.Native.Nat.{ℕ, ◌+◌}
use native.Mathlib.Omega.{arith}
use lib.ListN.{length, drop}
use lib.Seq.{drop-length}
use Rattle.hashers.specs.Published.{fnv1a}
use Rattle.hashers.proofs.Mixing.{fnv_next}
use Rattle.hashers.proofs.fnv.FnvHasher.write.Goals as goal

pub loop-byte-preserved : goal.loop-byte-preserved
loop-byte-preserved c =
    let s = c.args.bytes.now in
    let i = c.loop-byte.byte-index in
    ap (λ (t : ℕ). fnv1a t (drop (i + 1) s)) c.fnv_byte-state.ensures ∙ fnv_next c.loop-byte.state s i (search rules) ∙ c.loop-byte.invariant

pub returns : goal.returns
unfolding fnv1a
returns c =
    let s = c.args.bytes.now in
    let state = c.loop-byte.state in
    let end : c.loop-byte.byte-index ≡ length s = omega arith in
    let none_left : fnv1a state (drop c.loop-byte.byte-index s) ≡ state = ap (λ (k : ℕ). fnv1a state (drop k s)) end ∙ ap (fnv1a state) (drop-length s) in
    ap (λ (t : ℕ). record { 0 = t }) (sym none_left ∙ c.loop-byte.invariant)
