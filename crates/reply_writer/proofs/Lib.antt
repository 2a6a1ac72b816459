pub mod Names
pub mod Runs
pub mod Payloads
pub mod Firmware
pub mod Writing
pub mod Sent
pub mod Laws
pub mod Unique
