pub mod Sizes
pub mod Packing
pub mod Values
pub mod Behind
pub mod Arms
pub mod Order
pub mod Laws
pub mod Unique
