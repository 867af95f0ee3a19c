pub use Rattle.check_actions.specs.CheckExpressions.Findings as Findings
pub use Rattle.check_actions.specs.CheckExpressions.declared as declared
