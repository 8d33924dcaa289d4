pub mod Held
pub mod Moving
pub mod Into
