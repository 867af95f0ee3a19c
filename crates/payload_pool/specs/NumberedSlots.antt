pub use Rattle.numbered_slots.specs.Numbered as Numbered
pub use Rattle.numbered_slots.specs.Places as Places
pub use Rattle.numbered_slots.specs.Updated as Updated
