pub mod Leads
pub mod Complete
pub mod Sound
pub mod Stops
pub mod Adding
pub mod Looping
