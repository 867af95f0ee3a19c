pub use Rattle.parse_actions.proofs.ChannelLaws as ChannelLaws
pub use Rattle.parse_actions.proofs.TypeLaws as TypeLaws
