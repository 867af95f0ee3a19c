pub use Rattle.kernel_view.specs.ProcessState.declared as declared
