pub use Rattle.code_rules.specs.ModelRules.Passes as Passes
