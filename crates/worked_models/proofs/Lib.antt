pub mod Reading
pub mod SameDesign
pub mod Cutting
pub mod ReadingDesigns
mod CodeOf
