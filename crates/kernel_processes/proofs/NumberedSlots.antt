pub use Rattle.wait_lists.proofs.NumberedSlots.MapLemmas as MapLemmas
