pub use Rattle.check_expressions.specs.CheckNames.LocalNames as LocalNames
pub use Rattle.check_expressions.specs.CheckNames.ModuleNames as ModuleNames
pub use Rattle.check_expressions.specs.CheckNames.Places as Places
pub use Rattle.check_expressions.specs.CheckNames.Tables as Tables
