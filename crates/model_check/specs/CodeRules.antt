pub use Rattle.code_rules.specs.Bodies as Bodies
pub use Rattle.code_rules.specs.Rooms as Rooms
