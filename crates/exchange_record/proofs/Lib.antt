pub mod Pairs
pub mod Fields
pub mod Walk
pub mod Exchange
pub mod Unique
pub mod Points
