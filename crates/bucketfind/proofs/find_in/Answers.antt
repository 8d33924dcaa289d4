-- `bucketfind::find_in` meets its contract. Assumes nothing.
use Rattle.std.proofs.Common.{refl}
use Rattle.bucketfind.proofs.Looks.{home_found, home_goes, broken_found, link_found, link_goes, tail_found}
use Rattle.bucketfind.proofs.find_in.Goals as goal

pub returns-then-holds : goal.returns-then-holds
returns-then-holds c = home_found _ _ _ _ _ c.bucket_at-home.ensures c.holds.ensures _ c.if-holds.true c.met.ensures

pub loop-delta-init : goal.loop-delta-init
loop-delta-init c =
    home_goes _ _ _ _ _ c.bucket_at-home.ensures c.holds.ensures c.requires _ c.if-holds.false (rw c.cell_index.ensures at c.from-delta.ensures)

pub returns-then-looked-size : goal.returns-then-looked-size
returns-then-looked-size c = broken_found _ _ _ _ _ _ c.loop-delta.invariant c.loop-delta-test.true _ c.if-looked-size.true refl

pub returns-then-holds-2 : goal.returns-then-holds-2
returns-then-holds-2 c =
    link_found _ _ _ _ _ _ c.loop-delta.invariant c.loop-delta-test.true c.if-looked-size.false _ _ _ c.wrapping_add_u64-at.ensures.value c.bucket_at-bucket.ensures c.holds-in-loop-delta.ensures _ c.if-holds-2.true c.met-then-holds-2.ensures

pub loop-delta-preserved : goal.loop-delta-preserved
loop-delta-preserved c =
    link_goes _ _ _ _ _ _ c.loop-delta.invariant c.loop-delta-test.true c.if-looked-size.false _ _ _ c.wrapping_add_u64-at.ensures.value c.bucket_at-bucket.ensures c.holds-in-loop-delta.ensures _ c.if-holds-2.false (rw c.cell_index-in-loop-delta.ensures at c.from-delta-in-loop-delta.ensures)

pub returns : goal.returns
returns c = tail_found _ _ _ _ _ _ c.loop-delta.invariant _ c.loop-delta-test.false refl
