pub use Rattle.exec_data.proofs.KernelState.Frames as Frames
pub use Rattle.exec_data.proofs.KernelState.Offsprings as Offsprings
pub use Rattle.exec_data.proofs.KernelState.Uses as Uses
