pub use Rattle.dmi_map.proofs.OneOrder as OneOrder
pub use Rattle.dmi_map.proofs.OrderedPlaces as OrderedPlaces
