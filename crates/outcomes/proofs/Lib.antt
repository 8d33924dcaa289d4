-- No second answer, and no second contents of the slices that a call is lent to write, satisfies the contract of a public call.
-- For each call stands a law, named after it, that says its `ensures` of two outcomes on one input. `compare/surface` holds the
-- laws to the sources.
pub mod One
pub mod Util
pub mod Hashers
pub mod Hashmap
pub mod Hashreads
pub mod Buckets
pub mod Bucketfind
pub mod Checker
pub mod Moves
pub mod Parts
pub mod Halves
pub mod Growth
pub mod Hashiter
pub mod Hashentry
pub mod Entryinsert
