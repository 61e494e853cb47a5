pub mod Row
pub mod TwoTurns
