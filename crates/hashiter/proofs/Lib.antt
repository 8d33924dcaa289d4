pub mod Stepping
pub mod Setting
