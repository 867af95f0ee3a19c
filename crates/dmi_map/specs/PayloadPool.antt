pub use Rattle.payload_pool.specs.Carried as Carried
pub use Rattle.payload_pool.specs.Payloads as Payloads
pub use Rattle.payload_pool.specs.Transfer as Transfer
pub use Rattle.payload_pool.specs.declared as declared
