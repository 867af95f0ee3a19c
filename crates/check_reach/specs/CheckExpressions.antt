pub use Rattle.check_expressions.specs.Findings as Findings
