pub use Rattle.signal_channel.proofs.LogicValues.VectorLaws as VectorLaws
