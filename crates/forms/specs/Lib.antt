pub mod Digests
pub mod Hashers
pub mod Kinds
pub mod Sayings
