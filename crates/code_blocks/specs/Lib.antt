pub mod Laid
pub mod CodeTerms
pub mod CodeDeeds
pub mod LawsCode
