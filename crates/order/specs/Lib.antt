-- Any order: what the claims are stated with.
pub mod Requests
pub mod Reordering
pub mod Readings
pub mod Number
pub mod Engine
pub mod Runs
pub mod Tables
pub mod Claims
pub mod Worked
