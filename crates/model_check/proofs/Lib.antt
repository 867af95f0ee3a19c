pub mod LocalLemmas
pub mod BodyLemmas
pub mod LaidLemmas
pub mod Apart
pub mod Standing
mod Raised
pub mod Ticked
pub mod TickJudgements
