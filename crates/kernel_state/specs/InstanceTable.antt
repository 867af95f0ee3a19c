pub use Rattle.kernel_processes.specs.InstanceTable.contracts as contracts
pub use Rattle.kernel_processes.specs.InstanceTable.declared as declared
