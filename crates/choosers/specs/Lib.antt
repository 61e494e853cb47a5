pub mod Choosers
