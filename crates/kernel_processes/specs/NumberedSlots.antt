pub use Rattle.instance_table.specs.NumberedSlots.Numbered as Numbered
