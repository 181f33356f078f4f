pub mod Bits
pub mod ByBits
pub mod Fields
pub mod Maps
pub mod Sets
pub mod Listed
pub mod Present
