pub use Rattle.check_expressions.specs.CheckNames.Places as Places
