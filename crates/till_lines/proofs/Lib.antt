pub mod Language
pub mod Reading
pub mod Reports
pub mod Sizes
pub mod Walking
pub mod Worked
pub mod Writing
