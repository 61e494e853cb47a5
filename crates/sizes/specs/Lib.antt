pub mod Usual
pub mod Lost
