use Rattle.command_line.proofs.PlainLemmas.{plain_line, plain_word}
use Rattle.command_line.proofs.laws.two_names_are_a_simulation.Goals as goal

pub returns : goal.returns
returns c = λ model script m s. plain_line model script (plain_word model m) (plain_word script s)
