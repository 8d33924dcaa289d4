pub mod Reach
pub mod Chains
pub mod Meets
pub mod Counting
pub mod Decides
