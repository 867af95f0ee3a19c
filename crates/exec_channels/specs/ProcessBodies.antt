pub use Rattle.kernel_view.specs.ProcessBodies.Bodies as Bodies
