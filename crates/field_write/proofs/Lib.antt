pub mod Allowed
pub mod Cleaned
pub mod Padding
pub mod Worked
pub mod Writing
