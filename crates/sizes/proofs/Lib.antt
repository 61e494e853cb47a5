pub mod Band
pub mod Most
pub mod Looks
pub mod Unique
