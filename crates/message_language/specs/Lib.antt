pub mod Language
pub mod Worked
