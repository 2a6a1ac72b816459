pub mod Halves
pub mod Rounding
pub mod OverScale
pub mod Scales
pub mod Samples
pub mod Nearest
