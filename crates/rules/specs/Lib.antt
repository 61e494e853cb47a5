pub mod Power
pub mod Product
pub mod RawPower
pub mod Exp
pub mod RawExp
pub mod Formula
