pub use Rattle.exec_data.proofs.Following as Following
