pub use Rattle.flat_design.specs.LogicValues.Digits as Digits
pub use Rattle.flat_design.specs.LogicValues.Integers as Integers
pub use Rattle.flat_design.specs.LogicValues.Planes as Planes
pub use Rattle.flat_design.specs.LogicValues.declared as declared
