pub mod Named
pub mod Clocked
pub mod Page
pub mod Becomes
