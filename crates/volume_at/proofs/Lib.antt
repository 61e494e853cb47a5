pub mod ByLetter
pub mod Unique
