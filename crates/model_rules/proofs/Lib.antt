pub mod Firsts
pub mod Closures
pub mod Doubles
