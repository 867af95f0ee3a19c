pub use Rattle.code_rules.specs.ModelRules.Meanings as Meanings
pub use Rattle.code_rules.specs.ModelRules.Scopes as Scopes
pub use Rattle.code_rules.specs.ModelRules.Targets as Targets
