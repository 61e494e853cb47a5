pub mod Boundary
pub mod Raw
