pub use Rattle.kernel_state.specs.KernelChannels.Writers as Writers
