pub use Rattle.parse_expressions.proofs.Complete as Complete
pub use Rattle.parse_expressions.proofs.Many as Many
pub use Rattle.parse_expressions.proofs.OneToken as OneToken
pub use Rattle.parse_expressions.proofs.Parsers as Parsers
pub use Rattle.parse_expressions.proofs.Sound as Sound
