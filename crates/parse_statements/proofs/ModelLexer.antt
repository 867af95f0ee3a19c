pub use Rattle.parse_actions.proofs.ModelLexer.CutLaws as CutLaws
pub use Rattle.parse_actions.proofs.ModelLexer.Cuts as Cuts
pub use Rattle.parse_actions.proofs.ModelLexer.Shrinks as Shrinks
pub use Rattle.parse_actions.proofs.ModelLexer.SoundItems as SoundItems
