mod Texts
mod Rows
mod Tasks
mod Joined
mod Coded
mod PointTexts
mod Steps
