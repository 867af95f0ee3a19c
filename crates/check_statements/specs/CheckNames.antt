pub use Rattle.check_actions.specs.CheckNames.ModuleNames as ModuleNames
pub use Rattle.check_actions.specs.CheckNames.Places as Places
