use Rattle.model_lexer.proofs.SoundItems.{model_sound}
use Rattle.model_lexer.proofs.grammar.sound_tree.Goals as goal

pub returns : goal.returns
returns c = model_sound
