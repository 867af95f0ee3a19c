pub use Rattle.process_bodies.proofs.KernelBodies.Strips as Strips
