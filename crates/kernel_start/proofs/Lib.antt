mod Cleaned
pub mod FirstOnes
pub mod Together
