pub use Rattle.check_expressions.specs.CheckNames.ModelNames as ModelNames
pub use Rattle.check_expressions.specs.CheckNames.ModuleNames as ModuleNames
pub use Rattle.check_expressions.specs.CheckNames.Places as Places
