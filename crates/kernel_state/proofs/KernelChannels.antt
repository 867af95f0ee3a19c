pub use Rattle.kernel_channels.proofs.Telling as Telling
