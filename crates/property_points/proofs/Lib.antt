pub mod Table33
pub mod Numbers
pub mod Record
