pub mod Behind
pub mod Required
