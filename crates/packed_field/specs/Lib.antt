pub mod Scripts
pub mod Items
