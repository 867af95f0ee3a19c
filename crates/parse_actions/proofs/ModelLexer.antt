pub use Rattle.parse_expressions.proofs.ModelLexer.CutLaws as CutLaws
pub use Rattle.parse_expressions.proofs.ModelLexer.Cuts as Cuts
pub use Rattle.parse_expressions.proofs.ModelLexer.Shrinks as Shrinks
pub use Rattle.parse_expressions.proofs.ModelLexer.SoundItems as SoundItems
