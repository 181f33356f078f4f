pub mod Bitmaps
pub mod Bits
pub mod Present
