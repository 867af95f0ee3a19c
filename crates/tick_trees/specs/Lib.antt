pub mod Retimed
pub mod Ticks
pub mod Times
pub mod Laws
pub mod Unfit
