pub mod Takings
pub mod Made
pub mod Premises
