pub mod Leaving
pub mod Cleared
