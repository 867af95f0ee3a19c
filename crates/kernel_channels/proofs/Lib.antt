pub mod Walked
pub mod Resting
pub mod AskedLists
pub mod Telling
pub mod Changing
pub mod Updating
pub mod Rounds
