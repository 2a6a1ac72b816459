pub mod Readers
pub mod Steps
pub mod Raws
pub mod Replies
pub mod Refusals
pub mod BothWays
