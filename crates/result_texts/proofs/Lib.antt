pub mod Pieces
pub mod OneText
