pub use Rattle.expr_eval.specs.TransportPhases.History as History
pub use Rattle.expr_eval.specs.TransportPhases.Phases as Phases
pub use Rattle.expr_eval.specs.TransportPhases.Rows as Rows
pub use Rattle.expr_eval.specs.TransportPhases.declared as declared
