mod Placed
mod Pushed
pub mod Closed
pub mod Having
mod BodyLemmas
pub mod RowLemmas
mod Lasting
mod Counts
pub mod Parents
pub mod ModelRules
pub mod DesignRules
