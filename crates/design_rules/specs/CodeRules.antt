pub use Rattle.code_rules.specs.Bodies as Bodies
pub use Rattle.code_rules.specs.Deeds as Deeds
