pub mod Unpacker
pub mod OneAnswer
