pub mod Cases
pub mod Fronts
pub mod Lists
pub mod Numbers
pub mod Numerals
pub mod Parts
pub mod Tables
