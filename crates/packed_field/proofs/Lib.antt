pub mod Scripts
pub mod Found
pub mod Ends
