pub mod Ranks
pub mod Ranges
pub mod Regions
pub mod Accesses
pub mod PayloadPool
