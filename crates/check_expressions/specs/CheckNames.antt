pub use Rattle.check_names.specs.LocalNames as LocalNames
pub use Rattle.check_names.specs.ModelNames as ModelNames
pub use Rattle.check_names.specs.ModuleNames as ModuleNames
pub use Rattle.check_names.specs.Places as Places
pub use Rattle.check_names.specs.Tables as Tables
