pub mod Unwound
pub mod Resting
pub mod Others
pub mod Thrown
pub mod ExecData
