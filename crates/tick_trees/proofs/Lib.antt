pub mod Limits
pub mod Languages
pub mod Times
pub mod Spans
pub mod Each
pub mod Firsts
mod Powers
mod Blocks
mod Past
