pub mod Point
pub mod Written
