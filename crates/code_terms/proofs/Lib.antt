mod Logic
mod Outside
mod Positions
mod Once
mod Following
