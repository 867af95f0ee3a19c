pub use Rattle.kernel_state.proofs.KernelBodies.Strips as Strips
