pub use Rattle.check_names.specs.ModuleNames as ModuleNames
pub use Rattle.check_names.specs.Tables as Tables
