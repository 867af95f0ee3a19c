pub mod Transfer
pub mod Moves
pub mod Payloads
pub mod Lends
pub mod Carried
pub mod NumberedSlots
