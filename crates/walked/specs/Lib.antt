-- How the laws of the cursor and of setting are stated.
pub mod Walked
pub mod Ways
pub mod Calls
