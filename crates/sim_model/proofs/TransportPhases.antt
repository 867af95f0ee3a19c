pub use Rattle.transport_phases.proofs.Entries as Entries
pub use Rattle.transport_phases.proofs.KeptPlaces as KeptPlaces
pub use Rattle.transport_phases.proofs.LawfulLemmas as LawfulLemmas
pub use Rattle.transport_phases.proofs.Places as Places
pub use Rattle.transport_phases.proofs.WordRoutes as WordRoutes
