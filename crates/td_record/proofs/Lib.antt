pub mod RecordSteps
pub mod Unique
