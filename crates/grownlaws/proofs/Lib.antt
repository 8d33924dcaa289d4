-- The laws of growth on the four slices and the growing record.
pub mod Within
pub mod Became
pub mod After
pub mod Answers
pub mod Lookups
pub mod Left
