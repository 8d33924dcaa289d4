-- Document 01 as definitions, in its order.
pub mod Sizes
pub mod Cells
pub mod Walk
pub mod Answers
pub mod Calls
pub mod Sound
pub mod Growth
pub mod Moves
pub mod Growing
pub mod Cursor
pub mod Entries
