pub mod Triggered
pub mod Onces
pub mod Gathered
pub mod Finding
pub mod Channels
pub mod Handles
pub mod Doing
pub mod Numbered
