pub mod Sizes
pub mod Walking
pub mod Probing
pub mod Branches
