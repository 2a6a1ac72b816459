pub mod Judge
pub mod Good
pub mod Longest
