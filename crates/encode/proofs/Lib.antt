pub mod Payloads
pub mod Writes
pub mod Frames
pub mod Exact
pub mod Limits
