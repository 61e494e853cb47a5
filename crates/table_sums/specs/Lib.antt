pub mod ByPowers
