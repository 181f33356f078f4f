pub mod Behind
pub mod Present
pub mod Required
