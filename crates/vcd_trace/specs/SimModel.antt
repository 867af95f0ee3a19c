pub use Rattle.laws_runs.specs.SimModel.Configuration as Configuration
pub use Rattle.laws_runs.specs.SimModel.Runs as Runs
pub use Rattle.laws_runs.specs.SimModel.Statements as Statements
pub use Rattle.laws_runs.specs.SimModel.Steps as Steps
pub use Rattle.laws_runs.specs.SimModel.Texts as Texts
pub use Rattle.laws_runs.specs.SimModel.Trace as Trace
pub use Rattle.laws_runs.specs.SimModel.Waits as Waits
pub use Rattle.laws_runs.specs.SimModel.declared as declared
