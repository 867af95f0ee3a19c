pub use Rattle.parse_expressions.specs.SimTime.declared as declared
