pub mod TwoTurns
pub mod Unique
