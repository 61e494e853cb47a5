pub mod Pressure
pub mod Kept
pub mod Expressions
pub mod Distances
pub mod Letters
pub mod Contract
pub mod Lists
