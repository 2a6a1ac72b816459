pub mod Buffer
pub mod Clearing
pub mod Gateway
pub mod Runs
