pub use Rattle.parse_actions.proofs.ParseExpressions.Complete as Complete
pub use Rattle.parse_actions.proofs.ParseExpressions.Many as Many
pub use Rattle.parse_actions.proofs.ParseExpressions.OneToken as OneToken
pub use Rattle.parse_actions.proofs.ParseExpressions.Parsers as Parsers
pub use Rattle.parse_actions.proofs.ParseExpressions.Sound as Sound
