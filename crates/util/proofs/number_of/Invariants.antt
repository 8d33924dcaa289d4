-- `util::number_of` meets its contract: n is the number of the bytes behind those that are left. Assumes nothing.
use Rattle.std.proofs.Common.{◌≡◌, length, drop, ◌++◌}
use Rattle.util.specs.Bytes.{number}
use Rattle.util.proofs.number_of.Given as goal

abbrev pub invariant-loop-byte : goal.invariant-loop-byte
invariant-loop-byte l =
    let left = l.byte-iterator.iter.rest.now in
    (left ++ drop (length left) l.bytes ≡ l.bytes) × (l.n ≡ number (drop (length left) l.bytes))
