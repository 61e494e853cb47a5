pub mod Trials
pub mod Answered
pub mod TdRecord
pub mod Pressure
pub mod Isotherm
pub mod Checked
