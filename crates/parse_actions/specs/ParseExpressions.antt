pub use Rattle.parse_expressions.specs.Parse as Parse
