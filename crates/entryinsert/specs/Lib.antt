pub mod Answers
pub mod Workers
