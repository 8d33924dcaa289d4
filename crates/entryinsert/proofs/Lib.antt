pub mod Placing
pub mod Handing
pub mod Putting
