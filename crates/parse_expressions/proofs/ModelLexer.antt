pub use Rattle.model_lexer.proofs.CutLaws as CutLaws
pub use Rattle.model_lexer.proofs.Cuts as Cuts
pub use Rattle.model_lexer.proofs.Shrinks as Shrinks
pub use Rattle.model_lexer.proofs.SoundExpressions as SoundExpressions
pub use Rattle.model_lexer.proofs.SoundItems as SoundItems
