pub use Rattle.kernel_view.specs.ProcessBodies.Bodies as Bodies
pub use Rattle.kernel_view.specs.ProcessBodies.declared as declared
