pub use Rattle.payload_pool.proofs.LawLemmas as LawLemmas
