pub use Rattle.kernel_state.proofs.KernelChannels.Telling as Telling
