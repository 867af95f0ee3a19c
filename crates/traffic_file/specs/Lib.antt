pub mod Traffic
pub mod BusText
pub mod Stops
pub mod DmiMap
pub mod TextLines
pub mod PayloadPool
