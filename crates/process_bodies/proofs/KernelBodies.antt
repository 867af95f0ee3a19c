pub use Rattle.kernel_bodies.proofs.Strips as Strips
