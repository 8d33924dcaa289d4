-- `util::number_of` meets its contract: the byte taken is the last of those that are left. Assumes nothing.
use borrow.Author.Rules.{rules}
use native.Mathlib.Omega.{arith}
use lib.ListN.{length}
use Rattle.util.proofs.Loading.{all_left, rest_fits, one_left, one_more}
use Rattle.util.proofs.number_of.Goals as goal

pub loop-byte-init : goal.loop-byte-init
loop-byte-init c = all_left c.args.bytes.now _ (search rules)

pub overflow_mul-n : goal.overflow_mul-n
overflow_mul-n c =
    let s = c.args.bytes.now in
    let r' = c.next.new.self.iter.rest.now in
    omega (arith, one_more s _ r' _ c.loop-byte.invariant.0 c.in-Some.ensures.steps, rest_fits s (length r') c.requires (λ k. (c.type_inv.bytes k).fits))

pub overflow_add-n : goal.overflow_add-n
overflow_add-n c =
    let s = c.args.bytes.now in
    let r' = c.next.new.self.iter.rest.now in
    omega (arith, c.from.ensures, one_more s _ r' _ c.loop-byte.invariant.0 c.in-Some.ensures.steps, rest_fits s (length r') c.requires (λ k. (c.type_inv.bytes k).fits))

pub loop-byte-preserved : goal.loop-byte-preserved
loop-byte-preserved c =
    let s = c.args.bytes.now in
    let r' = c.next.new.self.iter.rest.now in
    let more = one_more s _ r' _ c.loop-byte.invariant.0 c.in-Some.ensures.steps in
    (one_left s _ r' _ c.loop-byte.invariant.0 c.in-Some.ensures.steps, omega (arith, c.from.ensures, more))
