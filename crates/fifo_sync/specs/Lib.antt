pub mod Fifos
pub mod Locks
