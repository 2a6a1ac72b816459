pub mod Ids
pub mod Unique
