pub use Rattle.kernel_state.proofs.Frames as Frames
pub use Rattle.kernel_state.proofs.ProcessFrames as ProcessFrames
