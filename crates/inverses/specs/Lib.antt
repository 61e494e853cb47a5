pub mod Units
pub mod Root
pub mod Log
pub mod RawLog
pub mod Formula
