pub mod Cleaning
pub mod Contents
pub mod Items
pub mod Made
pub mod Maps
