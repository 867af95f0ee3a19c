pub use Rattle.payload_pool.proofs.NumberedSlots.MapLemmas as MapLemmas
