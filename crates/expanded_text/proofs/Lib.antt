mod OneForm
pub mod Blanks
pub mod Spelled
pub mod Reading
pub mod Rising
pub mod TokenLimits
pub mod Texts
pub mod Putting
