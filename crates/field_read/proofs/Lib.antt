pub mod Found
pub mod Items
