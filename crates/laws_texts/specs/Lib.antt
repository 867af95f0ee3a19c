pub mod Unlined
pub mod ReadsBack
pub mod PrintsAgain
pub mod Bounds
pub mod Order
pub mod Productions
pub mod RuleTimes
