pub use Rattle.kernel_view.specs.EventCore.declared as declared
