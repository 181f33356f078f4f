pub mod Widths
pub mod Texts
pub mod Measures
pub mod RoundTrip
pub mod Worked
