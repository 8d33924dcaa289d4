pub mod Shapes
pub mod Doing
pub mod Placing
pub mod Tails
pub mod Clearing
pub mod Views
