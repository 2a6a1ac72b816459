pub mod RawReply
pub mod Reading
pub mod Laws
