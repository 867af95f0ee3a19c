pub use Rattle.dmi_map.proofs.PayloadPool.LawLemmas as LawLemmas
