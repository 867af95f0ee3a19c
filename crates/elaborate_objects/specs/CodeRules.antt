pub use Rattle.design_rules.specs.CodeRules.Bodies as Bodies
pub use Rattle.design_rules.specs.CodeRules.Deeds as Deeds
