pub mod Origin
