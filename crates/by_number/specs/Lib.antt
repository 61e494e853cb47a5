pub mod Property
pub mod Together
