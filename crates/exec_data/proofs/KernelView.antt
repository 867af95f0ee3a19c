pub use Rattle.kernel_view.proofs.Stopped as Stopped
