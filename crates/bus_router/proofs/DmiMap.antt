pub use Rattle.traffic_file.proofs.DmiMap.OneOrder as OneOrder
pub use Rattle.traffic_file.proofs.DmiMap.OrderedPlaces as OrderedPlaces
