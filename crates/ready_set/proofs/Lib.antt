pub mod Rising
pub mod Shown
pub mod Least
pub mod Row
