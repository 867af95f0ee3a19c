pub use Rattle.numbered_slots.specs.Numbered as Numbered
