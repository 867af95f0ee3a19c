pub mod Keepers
pub mod SimTime
