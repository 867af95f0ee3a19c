pub mod Fronts
pub mod Outputs
pub mod Reached
pub mod Idle
pub mod Going
pub mod Texts
pub mod Turning
mod Quietly
pub mod SimIo
