pub mod Children
pub mod Links
pub mod Left
pub mod Work
pub mod Listed
pub mod Joins
pub mod Linked
pub mod Named
