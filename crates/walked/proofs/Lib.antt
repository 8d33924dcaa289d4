pub mod Ways
pub mod Steps
pub mod Counted
pub mod Walks
pub mod Sets
pub mod Slices
pub mod Calls
pub mod Handed
