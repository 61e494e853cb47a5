pub mod Laws
pub mod Cut
pub mod Unique
pub mod Example
pub mod Points
