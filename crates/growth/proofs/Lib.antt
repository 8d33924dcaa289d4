pub mod Tries
pub mod Turns
pub mod Fulls
pub mod Still
pub mod Going
pub mod Sides
pub mod Loop
pub mod Checked
