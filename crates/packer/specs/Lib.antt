pub mod Numbers
pub mod Unpacking
pub mod Packing
pub mod Nearness
pub mod Standing
pub mod OneAnswer
