pub mod Wakes
pub mod Changed
pub mod Places
pub mod Rousing
mod Emptiness
mod Timing
mod Meeting
mod Firing
pub mod Fired
pub mod Sounding
mod Single
mod Finish
mod Ending
mod Room
mod Moving
pub mod OtherBody
mod Adding
mod Overs
mod Takings
mod WakingMoves
pub mod NumberedSlots
pub mod ReadySet
