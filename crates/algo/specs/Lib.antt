pub mod Table
pub mod Joint
pub mod Raw
