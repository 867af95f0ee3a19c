pub mod Contents
pub mod Cause
pub mod Keeps
pub mod Writes
pub mod Memory
pub mod Host
pub mod Sound
pub mod Moved
