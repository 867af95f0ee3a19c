pub mod Lists
pub mod Pools
pub mod Counts
pub mod Frames
pub mod Making
pub mod Histories
pub mod Judgements
