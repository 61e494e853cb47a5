pub mod Walks
pub mod TableSums
pub mod Kept
pub mod Unique
