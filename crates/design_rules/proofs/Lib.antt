pub mod Paths
pub mod Lists
pub mod Reached
pub mod Ranks
pub mod Rounds
pub mod Listed
mod WorkedDesign
