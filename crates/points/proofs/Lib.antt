pub mod Volumes
pub mod Backward
pub mod NumberAndValue
