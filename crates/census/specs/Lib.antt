-- Live over any calls: what the claim is stated with.
pub mod History
pub mod Steps
pub mod Events
pub mod Stores
pub mod Calls
pub mod Parts
pub mod Starts
pub mod Worked
