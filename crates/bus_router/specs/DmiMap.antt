pub use Rattle.traffic_file.specs.DmiMap.Accesses as Accesses
pub use Rattle.traffic_file.specs.DmiMap.Ranges as Ranges
pub use Rattle.traffic_file.specs.DmiMap.Ranks as Ranks
pub use Rattle.traffic_file.specs.DmiMap.Regions as Regions
pub use Rattle.traffic_file.specs.DmiMap.declared as declared
