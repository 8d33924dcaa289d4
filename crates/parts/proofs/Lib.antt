pub mod Checks
pub mod Cutting
pub mod Which
