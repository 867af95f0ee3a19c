pub mod Runnable
pub mod Answered
pub mod PayloadPool
pub mod DmiMap
