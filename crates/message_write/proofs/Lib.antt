pub mod Answered
pub mod Ends
pub mod Weighing
pub mod Writing
