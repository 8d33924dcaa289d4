-- How the laws of entries are stated.
pub mod Uses
pub mod Made
pub mod Sound
pub mod Apart
