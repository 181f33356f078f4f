pub mod Plain
pub mod Worked
