pub mod Board
pub mod Answers
pub mod Hops
