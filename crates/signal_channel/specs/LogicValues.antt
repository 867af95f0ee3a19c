pub use Rattle.logic_values.specs.Digits as Digits
pub use Rattle.logic_values.specs.Integers as Integers
pub use Rattle.logic_values.specs.LogicTables as LogicTables
pub use Rattle.logic_values.specs.Planes as Planes
pub use Rattle.logic_values.specs.SameValue as SameValue
pub use Rattle.logic_values.specs.ValueText as ValueText
pub use Rattle.logic_values.specs.Vectors as Vectors
pub use Rattle.logic_values.specs.declared as declared
