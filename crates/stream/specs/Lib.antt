pub mod Reading
pub mod Judging
pub mod Searching
pub mod Lateness
pub mod OneBefore
