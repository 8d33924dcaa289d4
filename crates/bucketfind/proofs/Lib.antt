pub mod Looks
pub mod Flat
pub mod Inverse
pub mod Same
pub mod Bounds
