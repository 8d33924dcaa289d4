pub mod Repeats
pub mod Samples
pub mod Counting
pub mod Sizes
pub mod Filled
pub mod Exact
pub mod Twin
pub mod Examples
