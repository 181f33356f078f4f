pub mod RoundTrip
pub mod Refusals
pub mod House
pub mod Binary
