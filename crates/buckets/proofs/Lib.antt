pub mod Lists
pub mod Stores
pub mod Reading
pub mod Putting
