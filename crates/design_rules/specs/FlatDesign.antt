pub use Rattle.code_rules.specs.FlatDesign.declared as declared
