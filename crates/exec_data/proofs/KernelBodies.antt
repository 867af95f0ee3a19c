pub use Rattle.kernel_view.proofs.KernelBodies.Strips as Strips
