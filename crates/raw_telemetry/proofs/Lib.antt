pub mod Needs
pub mod Rows
pub mod Padded
pub mod Laws
