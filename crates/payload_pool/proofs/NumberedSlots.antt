pub use Rattle.numbered_slots.proofs.MapLemmas as MapLemmas
