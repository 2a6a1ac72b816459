pub mod Scanning
pub mod Places
pub mod Holding
pub mod Prefix
pub mod Unique
pub mod Moved
pub mod Sent
