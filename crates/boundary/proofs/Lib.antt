pub mod Bands
mod Middle
pub mod Limit
pub mod Unique
