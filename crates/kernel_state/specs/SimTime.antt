pub use Rattle.kernel_processes.specs.SimTime.declared as declared
