pub mod Reply
pub mod Decode
pub mod OneAnswer
pub mod Records
pub mod Nearness
