-- How the laws of sound tables are stated.
pub mod State
pub mod Built
pub mod Stops
pub mod Slices
