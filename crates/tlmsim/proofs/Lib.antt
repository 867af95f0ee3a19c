pub mod Holding
pub mod Courses
pub mod Ends
pub mod Large
pub mod Lines
pub mod Apart
pub mod Comes
pub mod Answered
mod Meaning
