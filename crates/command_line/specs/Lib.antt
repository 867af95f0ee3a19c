pub mod Command
pub mod Given
pub mod Numbers
pub mod Line
pub mod Views
pub mod Plain
pub mod TransportPhases
pub mod SimModel
