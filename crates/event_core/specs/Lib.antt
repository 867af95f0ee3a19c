pub mod Ev
pub mod Notifications
pub mod SimTime
