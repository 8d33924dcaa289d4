-- How the laws of growth are stated.
pub mod Tries
pub mod Rounds
pub mod Grown
pub mod Worked
pub mod Marked
