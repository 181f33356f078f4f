pub mod Results
pub mod Tests
pub mod Conversions
