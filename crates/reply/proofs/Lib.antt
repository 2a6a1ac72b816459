pub mod Parts
pub mod Prefix
pub mod Unique
pub mod Records
pub mod Nearness
