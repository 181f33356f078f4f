pub mod House
pub mod Table
pub mod Codes
