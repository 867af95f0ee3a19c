pub mod Carried
pub mod Sized
pub mod Entries
pub mod Calling
pub mod Ending
pub mod ExecEvents
pub mod ExecCalls
