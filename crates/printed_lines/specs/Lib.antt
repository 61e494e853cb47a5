pub mod Border
pub mod Boundaries
