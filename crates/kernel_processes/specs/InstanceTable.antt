pub use Rattle.instance_table.specs.contracts as contracts
pub use Rattle.instance_table.specs.declared as declared
