pub use Rattle.kernel_channels.specs.KernelEvents.Numbered as Numbered
