pub mod Chains
pub mod Entries
pub mod Steps
mod Places
pub mod Moves
