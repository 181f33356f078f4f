pub mod Packed
pub mod Worked
