pub mod OfKind
pub mod Laws
pub mod Unique
