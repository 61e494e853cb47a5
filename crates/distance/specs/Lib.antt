pub mod Exact
pub mod Distance
pub mod Letter
