pub use Rattle.code_terms.specs.Names as Names
pub use Rattle.code_terms.specs.Sources as Sources
pub use Rattle.code_terms.specs.Statements as Statements
pub use Rattle.code_terms.specs.declared as declared
