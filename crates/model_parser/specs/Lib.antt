pub mod Starts
pub mod ItemParse
pub mod Bodies
pub mod Parse
