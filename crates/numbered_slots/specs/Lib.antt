pub mod Updated
pub mod Numbered
pub mod Layout
pub mod Lends
pub mod Places
pub mod MarkLayout
