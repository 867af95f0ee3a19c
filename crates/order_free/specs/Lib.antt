pub mod Uses
pub mod Blocks
pub mod Free
pub mod Users
pub mod Tables
pub mod Spreading
pub mod Roots
pub mod Broken
