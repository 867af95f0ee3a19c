pub use Rattle.dmi_map.specs.Accesses as Accesses
pub use Rattle.dmi_map.specs.Ranges as Ranges
pub use Rattle.dmi_map.specs.Ranks as Ranks
pub use Rattle.dmi_map.specs.Regions as Regions
pub use Rattle.dmi_map.specs.declared as declared
