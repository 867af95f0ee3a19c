pub use Rattle.sim_model.specs.NumberedSlots.Places as Places
