pub mod Bytes
pub mod Power
