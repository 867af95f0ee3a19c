pub use Rattle.signal_channel.specs.LogicValues.Digits as Digits
pub use Rattle.signal_channel.specs.LogicValues.Integers as Integers
pub use Rattle.signal_channel.specs.LogicValues.LogicTables as LogicTables
pub use Rattle.signal_channel.specs.LogicValues.Planes as Planes
pub use Rattle.signal_channel.specs.LogicValues.SameValue as SameValue
pub use Rattle.signal_channel.specs.LogicValues.ValueText as ValueText
pub use Rattle.signal_channel.specs.LogicValues.Vectors as Vectors
pub use Rattle.signal_channel.specs.LogicValues.declared as declared
