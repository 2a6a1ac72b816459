pub mod Frame
pub mod Laws
pub mod Opening
pub mod Opened
pub mod Wrapping
pub mod Room
pub mod OneAnswer
