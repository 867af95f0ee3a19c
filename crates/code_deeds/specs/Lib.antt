pub mod Homes
pub mod ModelRules
pub mod CodeRules
pub mod CodeTerms
