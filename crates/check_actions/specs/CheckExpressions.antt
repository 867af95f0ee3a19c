pub use Rattle.check_expressions.specs.ConstructFindings as ConstructFindings
pub use Rattle.check_expressions.specs.Findings as Findings
pub use Rattle.check_expressions.specs.declared as declared
