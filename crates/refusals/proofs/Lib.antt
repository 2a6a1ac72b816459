pub mod Different
pub mod Unique
pub mod Answers
