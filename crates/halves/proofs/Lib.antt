pub mod Alike
pub mod Fronts
pub mod Leaving
pub mod Cleared
pub mod AsTable
pub mod Fresh
pub mod Refusals
