pub use Rattle.model_check.specs.ModelRules.Passes as Passes
