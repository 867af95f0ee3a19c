pub mod Instances
pub mod Lends
pub mod NumberedSlots
