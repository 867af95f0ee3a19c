pub mod Growth
mod Forms
mod Sees
pub mod Results
pub mod Owned
pub mod Only
mod Walks
