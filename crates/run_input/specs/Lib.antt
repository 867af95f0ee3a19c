pub mod Limits
pub mod Together
pub mod Loaded
pub mod Acceptance
pub mod Refused
pub mod ResultTexts
