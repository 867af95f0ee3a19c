pub use Rattle.code_rules.specs.Bodies as Bodies
pub use Rattle.code_rules.specs.Deeds as Deeds
pub use Rattle.code_rules.specs.DesignFields as DesignFields
pub use Rattle.code_rules.specs.RoomFields as RoomFields
pub use Rattle.code_rules.specs.Rooms as Rooms
