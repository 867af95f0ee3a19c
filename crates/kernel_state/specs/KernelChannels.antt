pub use Rattle.kernel_channels.specs.Announced as Announced
pub use Rattle.kernel_channels.specs.Writers as Writers
