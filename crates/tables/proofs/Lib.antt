pub mod Turns
pub mod Widths
pub mod Bits
