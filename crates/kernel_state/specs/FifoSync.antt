pub use Rattle.kernel_processes.specs.FifoSync.Fifos as Fifos
