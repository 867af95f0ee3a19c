mod IntegerLemmas
mod PlaneLemmas
mod ResolvedLemmas
mod TextLemmas
pub mod VectorLaws
mod ConversionLemmas
pub mod IntegerLaws
pub mod SameValueLaws
