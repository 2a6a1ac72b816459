pub mod PFrames
pub mod Demands
pub mod Readings
