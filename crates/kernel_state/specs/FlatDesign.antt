pub use Rattle.kernel_processes.specs.FlatDesign.Code as Code
pub use Rattle.kernel_processes.specs.FlatDesign.Reach as Reach
pub use Rattle.kernel_processes.specs.FlatDesign.declared as declared
