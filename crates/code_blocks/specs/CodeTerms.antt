pub use Rattle.code_deeds.specs.CodeTerms.Names as Names
pub use Rattle.code_deeds.specs.CodeTerms.Sources as Sources
pub use Rattle.code_deeds.specs.CodeTerms.declared as declared
