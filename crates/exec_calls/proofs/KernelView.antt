pub use Rattle.exec_data.proofs.KernelView.Stopped as Stopped
