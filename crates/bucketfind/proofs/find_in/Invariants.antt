-- `bucketfind::find_in` meets its contract: the walk has gone so far. Assumes nothing.
use Rattle.std.proofs.Common.{◌-◌}
use Rattle.bucketfind.specs.Slice.{size_of}
use Rattle.bucketfind.proofs.Looks.{Gone}
use Rattle.bucketfind.proofs.find_in.Given as goal

abbrev pub invariant-loop-delta : goal.invariant-loop-delta
invariant-loop-delta l = Gone l.buckets l.hash l.key l.at l.looked l.delta

abbrev pub decreases-loop-delta : goal.decreases-loop-delta
decreases-loop-delta l = size_of l.buckets - l.looked
