pub mod Announced
pub mod Writers
pub mod Codes
pub mod UpdateMarks
pub mod KernelEvents
