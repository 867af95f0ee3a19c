pub use Rattle.code_terms.specs.ModelRules.Meanings as Meanings
pub use Rattle.code_terms.specs.ModelRules.Scopes as Scopes
