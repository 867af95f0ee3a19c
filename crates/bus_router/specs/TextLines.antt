pub use Rattle.traffic_file.specs.TextLines.Words as Words
pub use Rattle.traffic_file.specs.TextLines.declared as declared
