pub mod Numbers
pub mod Near
pub mod Nearest
