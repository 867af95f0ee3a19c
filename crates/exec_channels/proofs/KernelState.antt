pub use Rattle.kernel_view.proofs.KernelState.Frames as Frames
