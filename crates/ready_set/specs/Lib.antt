pub mod Ready
pub mod Layout
pub mod Row
