pub use Rattle.check_actions.specs.Uses as Uses
