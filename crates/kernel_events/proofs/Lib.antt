pub mod Changed
pub mod DueEvents
pub mod Earliest
pub mod ListedDeltas
