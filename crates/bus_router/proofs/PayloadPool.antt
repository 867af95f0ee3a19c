pub use Rattle.traffic_file.proofs.PayloadPool.LawLemmas as LawLemmas
