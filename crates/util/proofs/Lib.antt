pub mod Remainder
pub mod Digits
pub mod Loading
pub mod Powers
