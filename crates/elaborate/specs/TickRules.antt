pub use Rattle.model_check.specs.TickRules.Sources as Sources
