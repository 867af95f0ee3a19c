pub use Rattle.exec_data.specs.LogicValues.declared as declared
