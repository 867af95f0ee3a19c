pub use Rattle.traffic_file.specs.PayloadPool.Payloads as Payloads
pub use Rattle.traffic_file.specs.PayloadPool.Transfer as Transfer
pub use Rattle.traffic_file.specs.PayloadPool.declared as declared
