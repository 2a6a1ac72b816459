pub mod Rows
pub mod Records
pub mod Laws
