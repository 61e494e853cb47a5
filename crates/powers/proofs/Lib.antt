pub mod Exponents
pub mod Doubling
pub mod Ruled
pub mod Looked
pub mod Unique
