pub mod Packing
pub mod Unpacking
pub mod Faults
pub mod RoundTrip
pub mod Worked
