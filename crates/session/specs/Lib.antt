pub mod Cut
pub mod Fronts
pub mod Outputs
pub mod Telling
pub mod Course
pub mod Begun
pub mod SimIo
