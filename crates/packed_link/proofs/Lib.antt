pub mod Items
pub mod Fields
pub mod Turns
pub mod Heads
pub mod Carrying
pub mod Answers
pub mod Writing
