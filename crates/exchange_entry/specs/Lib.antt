pub mod Call
pub mod Write
