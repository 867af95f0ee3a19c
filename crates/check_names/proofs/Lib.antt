mod NumberLemmas
mod LocalLemmas
mod ModuleLemmas
pub mod ModelRules
