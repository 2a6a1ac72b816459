pub mod Commands
pub mod Masks
