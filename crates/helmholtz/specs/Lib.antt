pub mod Hfe
