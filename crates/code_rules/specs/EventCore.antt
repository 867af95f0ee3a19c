pub use Rattle.model_rules.specs.EventCore.declared as declared
