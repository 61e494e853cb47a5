pub mod Order
pub mod Roots
pub mod Never
pub mod Squares
pub mod Unique
