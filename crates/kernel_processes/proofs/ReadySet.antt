pub use Rattle.ready_set.proofs.Rising as Rising
pub use Rattle.ready_set.proofs.Shown as Shown
