pub use Rattle.parse_actions.specs.ParseExpressions.Parse as Parse
