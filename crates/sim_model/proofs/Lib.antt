pub mod LogicValues
pub mod NumberedSlots
pub mod TransportPhases
