pub mod Findings
pub mod ConstructFindings
pub mod ModelRules
pub mod CheckNames
