pub mod Forms
pub mod Items
pub mod Fields
pub mod Messages
pub mod Trips
pub mod Refusals
