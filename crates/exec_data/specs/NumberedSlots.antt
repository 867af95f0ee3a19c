pub use Rattle.kernel_view.specs.NumberedSlots.Numbered as Numbered
