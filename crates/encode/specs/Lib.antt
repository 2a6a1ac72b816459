pub mod Payload
pub mod Encode
pub mod OneAnswer
pub mod Limits
pub mod Written
