pub mod Published
pub mod Writes
pub mod Keys
pub mod Exports
