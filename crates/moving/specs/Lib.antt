pub mod Slices
pub mod Ends
