pub use Rattle.payload_pool.specs.NumberedSlots.Numbered as Numbered
pub use Rattle.payload_pool.specs.NumberedSlots.Places as Places
pub use Rattle.payload_pool.specs.NumberedSlots.Updated as Updated
