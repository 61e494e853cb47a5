pub mod WithP
