pub mod Scales
pub mod Records
pub mod Nearness
pub mod Padded
