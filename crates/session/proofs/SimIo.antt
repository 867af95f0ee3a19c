pub use Rattle.sim_io.proofs.Chains as Chains
