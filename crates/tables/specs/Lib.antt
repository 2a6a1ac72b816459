pub mod Tables
pub mod Rows
pub mod Sorts
pub mod Bits
