pub use Rattle.sim_model.specs.NumberedSlots.Numbered as Numbered
