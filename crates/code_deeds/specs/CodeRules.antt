pub use Rattle.code_terms.specs.CodeRules.Deeds as Deeds
pub use Rattle.code_terms.specs.CodeRules.Numbered as Numbered
pub use Rattle.code_terms.specs.CodeRules.Terms as Terms
