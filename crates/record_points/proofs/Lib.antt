pub mod Columns
pub mod Records
pub mod Exchange
pub mod Agree
