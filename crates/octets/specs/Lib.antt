pub mod Lists
pub mod Numbers
pub mod Numerals
pub mod Texts
