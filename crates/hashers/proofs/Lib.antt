pub mod Replaced
pub mod Mixing
pub mod Bijection
pub mod KeyHash
pub mod Vectors
