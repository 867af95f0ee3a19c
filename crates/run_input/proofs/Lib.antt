pub mod Reading
pub mod Refusals
pub mod Designs
pub mod Apart
pub mod Present
