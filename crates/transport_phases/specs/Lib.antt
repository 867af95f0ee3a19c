pub mod Phases
pub mod Rows
pub mod History
pub mod Seats
pub mod Unbroken
pub mod Words
pub mod Lawful
pub mod Order
