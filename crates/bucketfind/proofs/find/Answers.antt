-- `bucketfind::find` meets its contract. Assumes nothing.
use Rattle.std.proofs.Common.{sym, ◌∙◌}
use Rattle.steps.proofs.Branches.{shape_passes, shape_fails, find_zero, find_past, find_shape}
use Rattle.bucketfind.specs.Slice.{buckets_lent}
use Rattle.bucketfind.proofs.find.Goals as goal

pub returns-then-not-passes : goal.returns-then-not-passes
returns-then-not-passes c =
    let l = buckets_lent c.args.buckets.now c.args.table in
    find_shape l _ (shape_fails l (sym c.passes.ensures ∙ c.if-not-passes.true))

pub returns-then-hash-eq0 : goal.returns-then-hash-eq0
returns-then-hash-eq0 c =
    let l = buckets_lent c.args.buckets.now c.args.table in
    find_zero l _ _ c.hash_of-hash.ensures (shape_passes l (sym c.passes.ensures ∙ c.if-not-passes.false)) c.if-hash-eq0.true

pub returns : goal.returns
returns c =
    let l = buckets_lent c.args.buckets.now c.args.table in
    c.find_in.ensures ∙ find_past l _ _ c.hash_of-hash.ensures (shape_passes l (sym c.passes.ensures ∙ c.if-not-passes.false)) c.if-hash-eq0.false
