pub mod Format
pub mod Ids
