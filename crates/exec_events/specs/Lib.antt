pub mod Stopping
pub mod Numbers
pub mod Named
pub mod Requests
