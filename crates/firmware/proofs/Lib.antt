pub mod Ends
pub mod Raw
pub mod Zeros
pub mod Given
