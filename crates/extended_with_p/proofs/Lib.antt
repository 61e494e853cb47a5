pub mod TestedP
pub mod Unique
