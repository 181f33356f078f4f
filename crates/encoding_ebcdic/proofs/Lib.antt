pub mod Permutation
pub mod InverseTable
pub mod Mapping
pub mod Faults
pub mod RoundTrip
pub mod Worked
