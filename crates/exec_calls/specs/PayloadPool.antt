pub use Rattle.exec_data.specs.PayloadPool.Transfer as Transfer
pub use Rattle.exec_data.specs.PayloadPool.declared as declared
