pub use Rattle.laws_runs.specs.AddedStanding as AddedStanding
