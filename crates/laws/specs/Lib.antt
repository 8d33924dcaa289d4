-- How the laws of the calls are stated.
pub mod Ways
pub mod Left
pub mod Full
pub mod Changes
pub mod Examples
