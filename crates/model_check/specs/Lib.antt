pub mod Parts
pub mod ModelRules
pub mod CodeRules
pub mod TickRules
pub mod LawsCode
