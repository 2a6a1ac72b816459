pub mod Rows
pub mod Passing
pub mod Rule
pub mod Parts
pub mod Examples
pub mod Ends
