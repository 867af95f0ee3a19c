pub mod NumberLemmas
pub mod ClapLemmas
pub mod LineLemmas
pub mod PlainLemmas
pub mod Excluded
pub mod Budgets
