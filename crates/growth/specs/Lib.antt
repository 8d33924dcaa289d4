pub mod Growth
pub mod Rounds
