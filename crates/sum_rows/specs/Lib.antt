pub mod Table
pub mod Row
