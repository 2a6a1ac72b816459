pub mod Hops
pub mod Reading
pub mod Writing
pub mod Parts
pub mod Tells
pub mod Laws
pub mod Unique
