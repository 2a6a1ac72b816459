pub mod CheckValue
pub mod Division
pub mod Linear
pub mod Pieces
pub mod Remainder
pub mod Turns
pub mod Xor
