pub mod Keeping
pub mod Transfers
pub mod Making
pub mod Codes
pub mod Called
pub mod Ended
