pub use Rattle.tick_rules.specs.Sources as Sources
