pub use Rattle.dmi_map.specs.PayloadPool.Payloads as Payloads
pub use Rattle.dmi_map.specs.PayloadPool.Transfer as Transfer
pub use Rattle.dmi_map.specs.PayloadPool.declared as declared
