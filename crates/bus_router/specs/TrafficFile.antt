pub use Rattle.traffic_file.specs.BusText as BusText
pub use Rattle.traffic_file.specs.Stops as Stops
pub use Rattle.traffic_file.specs.Traffic as Traffic
pub use Rattle.traffic_file.specs.declared as declared
